-- Integer literals (reference, section 2.4.5) below 2 ^ 127: which texts are numerals, and their values.
use Rattle.std.specs.Prelude.{ℕ, ◌+◌, ◌*◌, ◌^◌, Bool, true, false, ◌&&◌, ◌||◌, ◌==◌, nat_lt, if◌then◌else◌, List, [], ◌∷◌, Option, Some, None, slice_index}
use Rattle.std.specs.Char.{digit_value, is_ascii_digit}

-- a numeral starts with a digit, or with a dot and a digit
abbrev pub begins_numeral : ℕ → List ℕ → Bool
begins_numeral c s = is_ascii_digit c || (c == 46 && is_ascii_digit (slice_index s 0))

abbrev pub is_digit : ℕ → ℕ → Bool
is_digit base c = nat_lt (digit_value c) base

-- digits of the base, with single underscores between them; behind says that a digit stands before
abbrev pub are_digits : ℕ → Bool → List ℕ → Bool
are_digits base behind [] = behind
are_digits base behind (c ∷ s) = if c == 95 then behind && are_digits base false s else is_digit base c && are_digits base true s

-- the number that n and the digits after it stand for
abbrev pub value : ℕ → ℕ → List ℕ → ℕ
value base n [] = n
value base n (c ∷ s) = if c == 95 then value base n s else value base (n * base + digit_value c) s

-- the digits' number, below 2 ^ 127
unfoldable pub digits : ℕ → List ℕ → Option ℕ
digits base text = if are_digits base false text && nat_lt (value base 0 text) (2 ^ 127) then Some (value base 0 text) else None

-- a single underscore may stand behind a prefix
abbrev pub past_underscore : List ℕ → List ℕ
past_underscore [] = []
past_underscore (c ∷ s) = if c == 95 then s else c ∷ s

-- a decimal numeral other than zero has no leading zero
abbrev pub unless_positive : Option ℕ → Option ℕ
unless_positive None = None
unless_positive (Some n) = if n == 0 then Some 0 else None

-- the number that a run stands for, if it is a numeral
unfoldable pub numeral : List ℕ → Option ℕ
numeral [] = None
numeral (z ∷ []) = digits 10 (z ∷ [])
numeral (z ∷ x ∷ s) =
    if z == 48 then (
    if x == 120 || x == 88 then digits 16 (past_underscore s) else (
    if x == 111 || x == 79 then digits 8 (past_underscore s) else (
    if x == 98 || x == 66 then digits 2 (past_underscore s) else unless_positive (digits 10 (z ∷ x ∷ s)))))
    else digits 10 (z ∷ x ∷ s)
