use Rattle.std.proofs.Common.{arith}
use Rattle.c_reader.proofs.Numbers.{closed_cut}
use Rattle.c_reader.proofs.number.size.Goals as goal

pub returns-in_err-rest-clause-none : goal.returns-in_err-rest-clause-none
returns-in_err-rest-clause-none c =
    rw c.from_residual-in_err-rest.ensures (λ n rest s. c.in_err-rest.ensures.none rest (closed_cut _ _ rest _ n _ c.in_ok-value.ensures.some (let small = s.fits in omega (arith, small, c.ranges.limit.fits)) c.requires s.spelled).1)

pub returns-else-value-limit-clause-none : goal.returns-else-value-limit-clause-none
returns-else-value-limit-clause-none c = λ n rest s.
    let small = s.fits in
    let same = closed_cut _ _ rest _ n _ c.in_ok-value.ensures.some (omega (arith, small, c.ranges.limit.fits)) c.requires s.spelled in
    omega (arith, small, same.0, c.if-value-limit.false)
