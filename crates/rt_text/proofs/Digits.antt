-- Numbers from digits.
use Rattle.std.proofs.Common.{◌≡◌, ℕ, zero, suc, ◌+◌, ◌-◌, ◌*◌, ◌^◌, ◌<◌, ◌≤◌, Bool, true, false, cond, List, [], ◌∷◌, length, get_or, drop, refl, ap, ◌∙◌, arith}
use Rattle.std.proofs.lemmas.Bool.Decides.{nat_tests}
use Rattle.std.proofs.lemmas.List.{at_drop_more}
use Rattle.std.specs.Prelude.{pos, negsuc, nat_eq, nat_lt, Option, Some, None, IfNone}
use Rattle.op_rules.specs.declared.arithmetic.Computed.TheVariants as computed
use Rattle.op_rules.specs.Numbers.{in_range}
use Rattle.op_rules.specs.Numerals.{numeral_value, signed}

either : (x : Bool) (n a b : ℕ) → n ≤ a → n ≤ b → n ≤ cond x a b
either true n a b p q = p
either false n a b p q = q

pub value_grows : (n : ℕ) (bs : List ℕ) → n ≤ numeral_value n bs
value_grows n [] = omega arith
value_grows n (b ∷ bs) =
    let more = value_grows (n * 10 + (b - 48)) bs in
    either (nat_eq b 95) n (numeral_value n bs) (numeral_value (n * 10 + (b - 48)) bs) (value_grows n bs) (omega (arith, more))

not_score : (b : ℕ) → (b ≡ 95 → ⊥) → nat_eq b 95 ≡ false
not_score b h = grind (arith, nat_tests)

-- a number that is too large stays too large
pub stays_large : (text : List ℕ) (i n : ℕ) → i < length text → (get_or text i 0 ≡ 95 → ⊥) → 2 ^ 128 ≤ n * 10 + (get_or text i 0 - 48) → 2 ^ 128 ≤ numeral_value n (drop i text)
stays_large text i n h other large =
    let next : ℕ = n * 10 + (get_or text i 0 - 48) in
    let step : numeral_value n (drop i text) ≡ numeral_value next (drop (i + 1) text) =
    at_drop_more (λ l. numeral_value n l) text i 0 h
    ∙ ap (λ x. cond x (numeral_value n (drop (i + 1) text)) (numeral_value next (drop (i + 1) text))) (not_score (get_or text i 0) other) in
    let more = value_grows next (drop (i + 1) text) in
    omega (arith, large, step, more)

pub if_none : (r : Option ℕ) (m n : ℕ) → m ≤ n → IfNone r (m ≤ n)
if_none None m n h = h
if_none (Some x) m n h = tt

-- ---- signs

yes : (n : ℕ) → n < 2 ^ 127 → nat_lt n (2 ^ 127) ≡ true
yes n h = grind (arith, nat_tests)

no : (n : ℕ) → 2 ^ 127 ≤ n → nat_lt n (2 ^ 127) ≡ false
no n h = grind (arith, nat_tests)

pub small : (negative : Bool) (n : ℕ) → n < 2 ^ 127 → in_range (signed negative n) ≡ computed.Int (signed negative n)
small false n h = ap (λ x. cond x (computed.Int (pos n)) computed.TooLarge) (yes n h)
small true zero h = refl
small true (suc n) h = ap (λ x. cond x (computed.Int (negsuc n)) computed.TooLarge) (yes n (omega (arith, h)))

pub large : (n : ℕ) → 2 ^ 127 ≤ n → in_range (signed false n) ≡ computed.TooLarge
large n h = ap (λ x. cond x (computed.Int (pos n)) computed.TooLarge) (no n h)

pub larger : (n : ℕ) → 2 ^ 127 < n → in_range (signed true n) ≡ computed.TooLarge
larger zero h = absurd (omega (arith, h))
larger (suc n) h = ap (λ x. cond x (computed.Int (negsuc n)) computed.TooLarge) (no n (omega (arith, h)))
