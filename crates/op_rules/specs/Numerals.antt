-- Integers from texts, and characters from their numbers and back (library reference, `int`, `ord` and `chr`).
use Rattle.std.specs.Prelude.{ℕ, ◌+◌, ◌-◌, ◌*◌, ℤ, pos, negsuc, neg_ℤ, List, [], ◌∷◌, Option, Some, None, Bool, true, false, ◌&&◌, ◌||◌, codes, if◌then◌else◌, nat_eq, nat_le, nat_lt, encode_utf8}
use Rattle.std.specs.List.{list_any}
use Rattle.std.specs.Str.{chars}
use Rattle.nu_text.specs.Decimals.{is_digit}
use Rattle.nu_value.specs.Same.{number_of}
use Rattle.nu_value.specs.declared.value.Value.{Value}
use Rattle.nu_value.specs.declared.value.Value.TheVariants as value
use Rattle.op_forms.specs.declared.end.OpEnd.{OpEnd}
use Rattle.op_forms.specs.Answers.{unbuilt}
use Rattle.op_rules.specs.Kinds.{type_error, value_error}
use Rattle.op_rules.specs.Numbers.{in_range, computed_end}
use Rattle.op_rules.specs.TextMethods.{bad_argument, give_number, give_text}
use Rattle.op_rules.specs.TextParts.{stripped}

-- ---- `int`

-- digits with single underscores between them; the Bool says whether a digit stood before
abbrev pub is_numeral : Bool → List ℕ → Bool
is_numeral digit [] = digit
is_numeral digit (b ∷ bs) = if is_digit b then is_numeral true bs else if digit && nat_eq b 95 then is_numeral false bs else false

-- the number that digits write, behind those of a number
abbrev pub numeral_value : ℕ → List ℕ → ℕ
numeral_value n [] = n
numeral_value n (b ∷ bs) = if nat_eq b 95 then numeral_value n bs else numeral_value (n * 10 + (b - 48)) bs

abbrev pub signed : Bool → ℕ → ℤ
signed true n = neg_ℤ (pos n)
signed false n = pos n

abbrev pub read_digits : Bool → List ℕ → OpEnd
read_digits negative digits =
    if is_numeral false digits then computed_end (in_range (signed negative (numeral_value 0 digits))) else value_error (codes "invalid literal for int() with base 10")

-- behind a sign, if there is one
abbrev pub read_signed : List ℕ → OpEnd
read_signed [] = read_digits false []
read_signed (b ∷ bs) = if nat_eq b 45 then read_digits true bs else if nat_eq b 43 then read_digits false bs else read_digits false (b ∷ bs)

-- a character past ASCII, or a separator, for which other digits and blanks would have to be known
abbrev pub is_beyond : ℕ → Bool
is_beyond b = nat_le 128 b || nat_le 28 b && nat_le b 31

abbrev pub read_int : List ℕ → OpEnd
read_int text = if list_any is_beyond text then unbuilt else read_signed (stripped text)

abbrev pub int_from : Value → Option ℤ → OpEnd
int_from v (Some z) = give_number z
int_from (value.Str text) None = read_int text
int_from v None = type_error (codes "int() argument must be a string or a number")

-- `int(x)`
abbrev pub int_of : Value → OpEnd
int_of v = int_from v (number_of v)

-- ---- characters

abbrev pub no_character : OpEnd
no_character = type_error (codes "ord() expected a character")

abbrev pub number_of_one : List ℕ → OpEnd
number_of_one (c ∷ []) = give_number (pos c)
number_of_one other = no_character

abbrev pub ord_of : Value → OpEnd
ord_of (value.Str text) = number_of_one (chars text)
ord_of other = no_character

abbrev pub not_in_range : OpEnd
not_in_range = value_error (codes "chr() arg not in range")

-- surrogates, which are no characters, are left out
abbrev pub character_of : ℤ → OpEnd
character_of (negsuc n) = not_in_range
character_of (pos n) =
    if nat_lt 1114111 n then not_in_range else if nat_le 55296 n && nat_le n 57343 then unbuilt else give_text (encode_utf8 n)

abbrev pub chr_from : Option ℤ → OpEnd
chr_from None = bad_argument (codes "chr")
chr_from (Some z) = character_of z

abbrev pub chr_of : Value → OpEnd
chr_of v = chr_from (number_of v)
