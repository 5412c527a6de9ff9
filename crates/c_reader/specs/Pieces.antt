-- What stands at the front of a text: numbers and strings, each with the rest behind it.
use Rattle.std.specs.Prelude.{◌≡◌, ℕ, ◌<◌, List, [], ◌∷◌, ◌++◌, ℤ, false, decimal, IsUtf8}
use Rattle.std.specs.List.{AllByRecursion}
use Rattle.std.specs.Fmt.{signed_decimal}
use Rattle.nu_text.specs.Decimals.{starts_digit}
use Rattle.nu_text.specs.Pieces.{before}
use Rattle.nu_text.specs.Strings.{string_text}
use Rattle.code_forms.specs.Fits.{IsInt}

-- the decimal of a number below a limit, which ends there
pub record BareStands (limit : ℕ) (text : List ℕ) (n : ℕ) (rest : List ℕ) : Type 0 where
  pub fits : n < limit
  pub spelled : text ≡ decimal n ++ rest
  pub ends : starts_digit rest ≡ false

-- the decimal of a number below a limit, and a closing piece
pub record NumberStands (limit : ℕ) (closing text : List ℕ) (n : ℕ) (rest : List ℕ) : Type 0 where
  pub fits : n < limit
  pub spelled : text ≡ before (decimal n ∷ closing ∷ []) rest

-- an opening piece, the decimal of a number below a limit, and a closing piece
pub record FieldStands (limit : ℕ) (opening closing text : List ℕ) (n : ℕ) (rest : List ℕ) : Type 0 where
  pub fits : n < limit
  pub spelled : text ≡ before (opening ∷ decimal n ∷ closing ∷ []) rest

-- the decimal of a whole number from -2^127 to 2^127 - 1, and a closing piece
pub record IntStands (closing text : List ℕ) (z : ℤ) (rest : List ℕ) : Type 0 where
  pub fits : IsInt z
  pub spelled : text ≡ before (signed_decimal z ∷ closing ∷ []) rest

abbrev pub AreBytes : List ℕ → Type 0
AreBytes = AllByRecursion (λ b. b < 256)

-- bytes between quotation marks
pub record QuotedStands (text bytes rest : List ℕ) : Type 0 where
  pub bytes_fit : AreBytes bytes
  pub spelled : text ≡ string_text bytes ++ rest

-- a text between quotation marks
pub record StringStands (text bytes rest : List ℕ) : Type 0 where
  pub utf8 : IsUtf8 bytes
  pub spelled : text ≡ string_text bytes ++ rest
