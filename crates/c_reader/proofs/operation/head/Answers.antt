use Rattle.c_reader.proofs.Operations.{head_line}
use Rattle.c_reader.proofs.operation.head.Goals as goal

pub returns-in_err-line-clause-none : goal.returns-in_err-line-clause-none
returns-in_err-line-clause-none c =
    rw c.from_residual-in_err-line.ensures (λ o at rest s.
    c.in_err-line.ensures.none at rest (head_line c.args.text.now c.in_ok-behind.behind.now c.in_ok-op.behind.now c.in_ok-op.op o at rest c.in_ok-behind.ensures.some c.in_ok-op.ensures.some s))
