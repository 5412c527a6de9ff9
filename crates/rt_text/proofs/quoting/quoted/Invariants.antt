use Rattle.std.proofs.Common.{◌≡◌, ◌∷◌, ◌++◌, length, string_bytes}
use Rattle.std.specs.List.{flat_map}
use Rattle.op_rules.specs.Quoting.{quoted_byte}
use denote.Shadow.{shadow}
use denote.Text.{Utf8}
use Rattle.rt_text.proofs.quoting.quoted.Given as goal

abbrev pub invariant-characters : goal.invariant-characters
invariant-characters l = record {
  shown : string_bytes l.all ++ flat_map (quoted_byte l.mark) l.rest ≡ l.mark ∷ flat_map (quoted_byte l.mark) l.text;
  text : shadow (Utf8 l.rest);
}

abbrev pub decreases-characters : goal.decreases-characters
decreases-characters l = length l.rest
