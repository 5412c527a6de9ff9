-- The characters of a text by their places.
use Rattle.std.specs.Prelude.{ℕ, ℤ, pos, negsuc, List, Option, option_map, slice_get, None, encode_utf8}
use Rattle.std.specs.Str.{chars}
use Rattle.nu_value.specs.declared.value.Value.{Value}
use Rattle.nu_value.specs.declared.value.Value.TheVariants as value

-- the character at a place of a text, as a text
abbrev pub text_item : List ℕ → ℤ → Option Value
text_item text (pos place) = option_map (λ c. value.Str (encode_utf8 c)) (slice_get (chars text) place)
text_item text (negsuc place) = None
