-- The number that a word is the decimal of.
use Rattle.std.proofs.Common.{◌≡◌, ℕ, ◌<◌, ◌≤◌, ◌^◌, List, [], ◌∷◌, ◌++◌, length, refl, sym, ◌∙◌, ap, arith, Some, None, decimal, true, false, append-nil, Bool, cond}
use Rattle.std.specs.Prelude.{nat_lt, ◌&&◌}
use Rattle.std.specs.Str.{bytes_eq}
use Rattle.std.specs.Str.Parse.{digits_value}
use Rattle.std.proofs.lemmas.Slice.Eq.{bytes_eq-Decides}
use Rattle.std.proofs.lemmas.Fmt.{decimal_is_IsNumeral_wide}
use Rattle.std.proofs.lemmas.Bool.Decides.{nat_tests}
use Rattle.nu_text.specs.Decimals.{DecimalStands}
use Rattle.nu_text.proofs.Decimals.{decimal_both}
use Rattle.nuit_lib.specs.Words.{steps_of}

value_of : (n : ℕ) → n < 2 ^ 128 → digits_value 10 (decimal n) ≡ n
value_of n h = (decimal_is_IsNumeral_wide n (omega (arith, h))).1

-- the whole word is a decimal
pub steps_some : (word rest : List ℕ) (n : ℕ) → DecimalStands word n rest → rest ≡ [] → n < 2 ^ 64 → Some n ≡ steps_of word
steps_some word rest n s e small =
    let spelled : word ≡ decimal n = s.spelled ∙ ap (λ l. decimal n ++ l) e ∙ append-nil (decimal n) in
    let value : digits_value 10 word ≡ n = ap (digits_value 10) spelled ∙ value_of n s.fits in
    let same : bytes_eq (decimal (digits_value 10 word)) word ≡ true = (bytes_eq-Decides (decimal (digits_value 10 word)) word).1 (ap decimal value ∙ sym spelled) in
    let less : nat_lt (digits_value 10 word) (2 ^ 64) ≡ true = grind (arith, nat_tests, value, small) in
    sym (ap (λ b. cond (b && nat_lt (digits_value 10 word) (2 ^ 64)) (Some (digits_value 10 word)) None) same
    ∙ ap (λ b. cond b (Some (digits_value 10 word)) None) less ∙ ap Some value)

-- no decimal below 2^64 is the whole word
pub steps_none : (word : List ℕ) → ((n : ℕ) → n < 2 ^ 64 → word ≡ decimal n → ⊥) → None ≡ steps_of word
steps_none word none = go (bytes_eq (decimal (digits_value 10 word)) word) refl (nat_lt (digits_value 10 word) (2 ^ 64)) refl
  where
    go : (b : Bool) → bytes_eq (decimal (digits_value 10 word)) word ≡ b → (c : Bool) → nat_lt (digits_value 10 word) (2 ^ 64) ≡ c → None ≡ steps_of word
    go true e true f =
        absurd (none (digits_value 10 word) (grind (arith, nat_tests, f)) (sym ((bytes_eq-Decides (decimal (digits_value 10 word)) word).0 e)))
    go true e false f = sym (ap (λ b. cond (b && nat_lt (digits_value 10 word) (2 ^ 64)) (Some (digits_value 10 word)) None) e ∙ ap (λ b. cond b (Some (digits_value 10 word)) None) f)
    go false e c f = sym (ap (λ b. cond (b && nat_lt (digits_value 10 word) (2 ^ 64)) (Some (digits_value 10 word)) None) e)

-- no decimal begins the word
pub steps_other : (word : List ℕ) → ((n : ℕ) (rest : List ℕ) → DecimalStands word n rest → ⊥) → None ≡ steps_of word
steps_other word none = steps_none word (λ n small e. none n [] (record { fits = omega (arith, small); spelled = e ∙ sym (append-nil (decimal n)); ends = refl }))

-- something stands behind it, or it is too large
pub steps_more : (word rest : List ℕ) (m : ℕ) → DecimalStands word m rest → (rest ≡ [] → m < 2 ^ 64 → ⊥) → None ≡ steps_of word
steps_more word rest m s not = steps_none word (λ n small e.
    let whole : word ≡ decimal n ++ [] = e ∙ sym (append-nil (decimal n)) in
    let fits = s.fits in
    let both = decimal_both m n rest [] (omega (arith, fits)) (omega (arith, small)) s.ends refl (sym s.spelled ∙ whole) in
    not both.1 (let same = both.0 in omega (arith, same, small)))

pub empty : (l : List ℕ) → length l ≤ 0 → l ≡ []
empty [] h = refl
empty (x ∷ l) h = absurd (omega (arith, h))
