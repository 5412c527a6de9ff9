use Rattle.std.proofs.Common.{◌≡◌, false, drop}
use Rattle.op_rules.specs.Numerals.{is_numeral}
use Rattle.rt_text.proofs.numerals.is_numeral.Given as goal

abbrev pub invariant-loop-byte : goal.invariant-loop-byte
invariant-loop-byte l = is_numeral l.digit (drop l.byte-index l.text) ≡ is_numeral false l.text
