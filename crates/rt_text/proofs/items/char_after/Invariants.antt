use Rattle.std.proofs.Common.{◌≡◌, length}
use Rattle.std.specs.Prelude.{slice_get}
use Rattle.std.specs.Str.{chars}
use denote.Shadow.{shadow}
use denote.Text.{Utf8}
use Rattle.rt_text.proofs.items.char_after.Given as goal

abbrev pub invariant-characters : goal.invariant-characters
invariant-characters l = record { same : slice_get (chars l.rest) l.left ≡ slice_get (chars l.text) l.place; text : shadow (Utf8 l.rest) }

abbrev pub decreases-characters : goal.decreases-characters
decreases-characters l = length l.rest
