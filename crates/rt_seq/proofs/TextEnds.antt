-- Behind the end of a text stands no character.
use Rattle.std.proofs.Common.{◌≡◌, ℕ, ◌≤◌, List, None, length, ap, arith}
use Rattle.std.specs.Prelude.{pos, IsUtf8, encode_utf8, option_map}
use Rattle.std.specs.Str.{chars}
use Rattle.std.proofs.lemmas.Option.{slice_get_past}
use Rattle.std.proofs.lemmas.Str.{encodes-chars, length-le-encodes}
use Rattle.nu_value.specs.declared.value.Value.TheVariants as value
use Rattle.op_rules.specs.TextItems.{text_item}

pub no_item : (text : List ℕ) (place : ℕ) → IsUtf8 text → length text ≤ place → text_item text (pos place) ≡ None
no_item text place u h =
    let short : length (chars text) ≤ length text = rw (encodes-chars text u) at (length-le-encodes (chars text)) in
    ap (option_map (λ c. value.Str (encode_utf8 c))) (slice_get_past (chars text) place (omega arith))
