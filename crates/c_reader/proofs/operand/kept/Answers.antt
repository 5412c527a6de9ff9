use Rattle.c_reader.proofs.Operands.{kept_value}
use Rattle.c_reader.proofs.operand.kept.Goals as goal

pub returns-in_default-2-clause-none : goal.returns-in_default-2-clause-none
returns-in_default-2-clause-none c = λ n a rest s.
    (rw c.in_default-2.is at c.in_ok-value.ensures.none) a rest (kept_value c.args.registers c.args.opening.now c.args.text.now c.in-Some.behind.now c.in-Some.n n a rest c.in-Some.ensures.some s)
