use Rattle.std.proofs.Common.{arith}
use Rattle.c_reader.proofs.Numbers.{decimal_cut}
use Rattle.c_reader.proofs.number.bare_number.Goals as goal

pub returns-else-value-limit-clause-none : goal.returns-else-value-limit-clause-none
returns-else-value-limit-clause-none c = λ n rest s.
    let small = s.fits in
    let same = decimal_cut c.args.text.now rest c.in_ok-value.rest.now n c.in_ok-value.value c.in_ok-value.ensures.some (omega (arith, small, c.requires)) s.ends s.spelled in
    omega (arith, small, same.0, c.if-value-limit.false)
