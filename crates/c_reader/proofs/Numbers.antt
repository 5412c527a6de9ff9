-- Numbers at the front of a text: the digits that spell them, and that no other stands there.
use Rattle.std.proofs.Common.{◌≡◌, ℕ, suc, ◌+◌, ◌<◌, ◌≤◌, ◌^◌, List, [], ◌∷◌, ◌++◌, drop, refl, sym, ◌∙◌, ap, arith, decimal, true, false, Option, Some, None, IfNone, Bor}
use Rattle.std.specs.Prelude.{ℤ, pos, negsuc, codes}
use Rattle.std.proofs.Common.{of_z, to_z}
use Rattle.std.specs.Int.{w128}
use Rattle.std.proofs.lemmas.Int.{to_z-of_z}
use Rattle.nu_text.specs.Pieces.{before}
use Rattle.nu_text.specs.Decimals.{starts_digit, ends_decimal, DecimalStands}
use Rattle.code_forms.specs.Fits.{IsInt}
use Rattle.c_reader.specs.Pieces.{BareStands, NumberStands, FieldStands, IntStands}
use Rattle.nu_text.proofs.Decimals.{IsShort, decimal_both, signed_both, ends_there, decimal_starts}

pub wide : (n : ℕ) → n < 2 ^ 128 → n < 10 ^ 64
wide n h = omega (arith, h)

-- no other number stands there
pub decimal_cut : (text y behind : List ℕ) (n value : ℕ) → DecimalStands text value behind → n < 2 ^ 128 → starts_digit y ≡ false → text ≡ decimal n ++ y → (value ≡ n) × (behind ≡ y)
decimal_cut text y behind n value s h ends e =
    decimal_both value n behind y (wide value s.fits) (wide n h) s.ends ends (sym s.spelled ∙ e)

pub closed_cut : (text closing rest behind : List ℕ) (n value : ℕ) → DecimalStands text value behind → n < 2 ^ 128 → ends_decimal closing ≡ true → text ≡ decimal n ++ (closing ++ rest) → (value ≡ n) × (behind ≡ closing ++ rest)
closed_cut text closing rest behind n value s h ends e = decimal_cut text (closing ++ rest) behind n value s h (ends_there closing rest ends) e

pub same_rest : (closing x y : List ℕ) → closing ++ x ≡ closing ++ y → x ≡ y
same_rest [] x y e = e
same_rest (b ∷ closing) x y e = same_rest closing x y (ap (drop 1) e)

pub number_both : (limit : ℕ) (closing text x y : List ℕ) (m n : ℕ) → limit ≤ 2 ^ 128 → ends_decimal closing ≡ true → NumberStands limit closing text m x → NumberStands limit closing text n y → (m ≡ n) × (x ≡ y)
number_both limit closing text x y m n small ends s t =
    let ms = s.fits in
    let ns = t.fits in
    let both = decimal_both m n (closing ++ x) (closing ++ y) (wide m (omega (arith, ms, small))) (wide n (omega (arith, ns, small)))
    (ends_there closing x ends) (ends_there closing y ends) (sym s.spelled ∙ t.spelled) in
    (both.0, same_rest closing x y both.1)

int_wide : (z : ℤ) → IsInt z → IsShort z
int_wide (pos n) h = omega (arith, h)
int_wide (negsuc n) h = omega (arith, h)

pub int_both : (closing text x y : List ℕ) (a b : ℤ) → ends_decimal closing ≡ true → IntStands closing text a x → IntStands closing text b y → (a ≡ b) × (x ≡ y)
int_both closing text x y a b ends s t =
    let both = signed_both a b (closing ++ x) (closing ++ y) (int_wide a s.fits) (int_wide b t.fits) (ends_there closing x ends) (ends_there closing y ends) (sym s.spelled ∙ t.spelled) in
    (both.0, same_rest closing x y both.1)

-- behind a minus stands the size of a negative number
pub minus_cut : (closing text digits rest : List ℕ) (z : ℤ) → text ≡ codes "-" ++ digits → IntStands closing text z rest → (n : ℕ) × NumberStands (2 ^ 127 + 1) closing digits (suc n) rest
minus_cut closing text digits rest (pos n) e s = let small = s.fits in absurd (decimal_starts n 45 (closing ++ rest) digits (omega (arith, small)) refl (sym s.spelled ∙ e))
minus_cut closing text digits rest (negsuc n) e s = let small = s.fits in (n, record { fits = omega (arith, small); spelled = ap (drop 1) (sym e ∙ s.spelled) })

pub closed_none : (text closing behind : List ℕ) (value found : ℕ) (o : Option (Bor (List ℕ))) → DecimalStands text found behind → value < 2 ^ 128 → ends_decimal closing ≡ true → IfNone o ((rest : List ℕ) → behind ≡ closing ++ rest → ⊥)
    → IfNone o ((rest : List ℕ) → text ≡ before (decimal value ∷ closing ∷ []) rest → ⊥)
closed_none text closing behind value found None s small ends none = λ rest e. none rest (closed_cut text closing rest behind value found s small ends e).1
closed_none text closing behind value found (Some x) s small ends none = tt

pub no_minus_zero : (closing digits x : List ℕ) (size : ℕ) → ends_decimal closing ≡ true → NumberStands (2 ^ 127 + 1) closing digits size x → size ≡ 0 → (text : List ℕ) → text ≡ codes "-" ++ digits → (z : ℤ) (rest : List ℕ) → IntStands closing text z rest → ⊥
no_minus_zero closing digits x size ends s empty text e z rest stands =
    let cut = minus_cut closing text digits rest z e stands in
    let same = (number_both (2 ^ 127 + 1) closing digits x rest size (suc cut.0) (omega arith) ends s cut.1).0 in
    omega (arith, same, empty)

-- reading a whole number of 128 bits back
pub int_fits : (z : ℤ) → IsInt z → to_z w128 (of_z w128 z) ≡ z
int_fits (pos n) h = to_z-of_z w128 (pos n) (record { sfits = h })
int_fits (negsuc n) h = to_z-of_z w128 (negsuc n) (record { sfits = h })

-- what follows a number that was read
pub number_behind : (limit : ℕ) (closing text behind rest : List ℕ) (value n : ℕ) → limit ≤ 2 ^ 64 → ends_decimal closing ≡ true → BareStands limit text value behind → NumberStands limit closing text n rest → behind ≡ closing ++ rest
number_behind limit closing text behind rest value n small ends b s =
    let fits = b.fits in
    let more = s.fits in
    (decimal_both value n behind (closing ++ rest) (wide value (omega (arith, fits, small))) (wide n (omega (arith, more, small))) b.ends (ends_there closing rest ends) (sym b.spelled ∙ s.spelled)).1

pub mapped_none : {A : Type 0} (o : Option A) (P Q : Type 0) → (P → Q) → IfNone o P → IfNone o Q
mapped_none None P Q f h = f h
mapped_none (Some x) P Q f h = tt

pub no_field : (limit : ℕ) (opening closing text behind : List ℕ) (o : Option (ℕ × Bor (List ℕ))) → text ≡ opening ++ behind → IfNone o ((n : ℕ) (rest : List ℕ) → NumberStands limit closing behind n rest → ⊥)
    → IfNone o ((n : ℕ) (rest : List ℕ) → FieldStands limit opening closing text n rest → ⊥)
no_field limit opening closing text behind o e h =
    mapped_none o ((n : ℕ) (rest : List ℕ) → NumberStands limit closing behind n rest → ⊥) ((n : ℕ) (rest : List ℕ) → FieldStands limit opening closing text n rest → ⊥)
    (λ none n rest s. none n rest (record { fits = s.fits; spelled = same_rest opening behind (decimal n ++ (closing ++ rest)) (sym e ∙ s.spelled) })) h

pub field_both : (limit : ℕ) (opening closing text x y : List ℕ) (m n : ℕ) → limit ≤ 2 ^ 128 → ends_decimal closing ≡ true → FieldStands limit opening closing text m x → FieldStands limit opening closing text n y → (m ≡ n) × (x ≡ y)
field_both limit opening closing text x y m n small ends s t =
    number_both limit closing (decimal m ++ (closing ++ x)) x y m n small ends (record { fits = s.fits; spelled = refl }) (record { fits = t.fits; spelled = same_rest opening (decimal m ++ (closing ++ x)) (decimal n ++ (closing ++ y)) (sym s.spelled ∙ t.spelled) })
