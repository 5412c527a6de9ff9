use Rattle.std.proofs.Common.{◌≡◌, [], ◌∷◌, ◌++◌, length, map}
use Rattle.std.specs.Char.{encode_utf8}
use Rattle.std.specs.Str.{chars}
use Rattle.op_rules.specs.TextParts.{single_pieces, text_values}
use denote.Shadow.{shadow}
use denote.Text.{Utf8}
use Rattle.rt_text.proofs.parts.single_pieces.Given as goal

abbrev pub invariant-characters : goal.invariant-characters
invariant-characters l = record {
  cut : l.items ++ text_values (map encode_utf8 (chars l.rest) ++ [] ∷ []) ≡ text_values (single_pieces (chars l.text));
  text : shadow (Utf8 l.rest);
}

abbrev pub decreases-characters : goal.decreases-characters
decreases-characters l = length l.rest
