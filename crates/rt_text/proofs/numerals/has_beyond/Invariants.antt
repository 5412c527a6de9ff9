use Rattle.std.proofs.Common.{◌≡◌, drop}
use Rattle.std.specs.List.{list_any}
use Rattle.op_rules.specs.Numerals.{is_beyond}
use Rattle.rt_text.proofs.numerals.has_beyond.Given as goal

abbrev pub invariant-loop-byte : goal.invariant-loop-byte
invariant-loop-byte l = list_any is_beyond (drop l.byte-index l.text) ≡ list_any is_beyond l.text
