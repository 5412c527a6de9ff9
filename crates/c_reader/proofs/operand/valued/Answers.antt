use Rattle.std.proofs.Common.{arith}
use Rattle.c_reader.proofs.Operands.{valued_there, valued_rest}
use Rattle.c_reader.proofs.operand.valued.Goals as goal

pub returns-in_default-2-clause-none : goal.returns-in_default-2-clause-none
returns-in_default-2-clause-none c = λ a rest s.
    (rw c.in_default-2.is at c.in_ok-value.ensures.none) a _ (valued_there c.args.registers c.args.opening.now c.args.closing.now c.args.text.now c.in-Some.behind.now a rest c.requires c.in-Some.ensures.some s)

pub returns-in_default-after-clause-none : goal.returns-in_default-after-clause-none
returns-in_default-after-clause-none c = λ a rest s.
    c.in_default-after.ensures.none rest
    (valued_rest c.args.registers c.args.opening.now c.args.closing.now c.args.text.now c.in-Some.behind.now c.in-Some-2.behind.now c.in-Some-2.value a rest (omega (arith, c.ranges.registers.fits)) c.requires c.in-Some.ensures.some
    (rw c.in-Some-2.is at c.in_ok-value.ensures.some) s)
