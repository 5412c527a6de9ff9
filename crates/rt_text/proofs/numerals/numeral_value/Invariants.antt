use Rattle.std.proofs.Common.{◌≡◌, drop}
use Rattle.op_rules.specs.Numerals.{numeral_value}
use Rattle.rt_text.proofs.numerals.numeral_value.Given as goal

abbrev pub invariant-loop-byte : goal.invariant-loop-byte
invariant-loop-byte l = numeral_value l.value (drop l.byte-index l.text) ≡ numeral_value 0 l.text
