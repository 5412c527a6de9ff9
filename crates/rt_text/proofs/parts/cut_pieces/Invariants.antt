use Rattle.std.proofs.Common.{◌≡◌, [], ◌++◌, length}
use Rattle.op_rules.specs.TextParts.{pieces_from, text_values}
use denote.Shadow.{shadow}
use denote.Text.{Utf8}
use Rattle.rt_text.proofs.parts.cut_pieces.Given as goal

abbrev pub invariant-cuts : goal.invariant-cuts
invariant-cuts l = record {
  cut : l.items ++ text_values (pieces_from l.part 0 [] l.rest) ≡ text_values (pieces_from l.part 0 [] l.text);
  text : shadow (Utf8 l.rest);
}

abbrev pub decreases-cuts : goal.decreases-cuts
decreases-cuts l = length l.rest
