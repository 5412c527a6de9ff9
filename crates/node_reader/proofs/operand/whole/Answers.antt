use Rattle.std.proofs.Common.{arith, suc}
use Rattle.node_reader.proofs.Operands.{minus_cut, no_minus_zero}
use Rattle.node_reader.proofs.operand.whole.Goals as goal

pub returns-in_err-size-in-Some-clause-none : goal.returns-in_err-size-in-Some-clause-none
returns-in_err-size-in-Some-clause-none c =
    rw c.from_residual.ensures (λ z rest s. let cut = minus_cut _ _ rest z c.in-Some.ensures.some s in c.in_err-size-in-Some.ensures.none (suc cut.0) rest cut.1)

pub returns-in_err-less-in-Some-clause-none : goal.returns-in_err-less-in-Some-clause-none
returns-in_err-less-in-Some-clause-none c =
    rw c.from_residual-in_err-less-in-Some.ensures (λ z rest s.
    no_minus_zero _ _ _ c.in_ok-size-in-Some.ensures.some (omega (arith, c.in_err-less-in-Some.ensures)) _ c.in-Some.ensures.some z rest s)
