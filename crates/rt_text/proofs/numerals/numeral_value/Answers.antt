use Rattle.std.proofs.Common.{◌≤◌, ◌^◌, drop, arith}
use Rattle.op_rules.specs.Numerals.{numeral_value}
use Rattle.rt_text.proofs.Digits.{stays_large, if_none}
use Rattle.rt_text.proofs.numerals.numeral_value.Goals as goal

pub returns-in_err-value-clause-none : goal.returns-in_err-value-clause-none
returns-in_err-value-clause-none c =
    let large : 2 ^ 128 ≤ numeral_value c.loop-byte.value (drop c.loop-byte.byte-index c.args.text.now) =
    stays_large c.args.text.now c.loop-byte.byte-index c.loop-byte.value (omega arith) (λ same. omega (arith, same)) (omega (arith, c.in_err-value.ensures.none)) in
    if_none c.from_residual.result (2 ^ 128) (numeral_value 0 c.args.text.now) (omega (arith, large, c.loop-byte.invariant))
