-- Floor division by the division whose rest isn't negative.
use Rattle.std.proofs.Common.{◌≡◌, ℕ, zero, suc, ◌+◌, ◌-◌, ◌*◌, ◌/◌, ◌%◌, ◌<◌, Bool, true, false, refl, sym, ap, ◌∙◌, arith, add-one, zero-mul, inl, inr}
use Rattle.std.specs.Prelude.{ℤ, pos, negsuc, neg_ℤ, ◌+ℤ◌, ◌-ℤ◌, ◌*ℤ◌, ◌&&◌, if◌then◌else◌, int_lt, ◌⊎◌}
use Rattle.std.specs.Ordering.{int_eq}
use Rattle.std.proofs.lemmas.Int.{ints}
use Rattle.std.proofs.lemmas.Nat.{div-add-mod', div-mul-add}
use Rattle.std.proofs.Math.Nat.{mod-lt, zero-mod, zero-div}
use Rattle.op_rules.specs.declared.arithmetic.Computed.{Computed}
use Rattle.op_rules.specs.declared.arithmetic.Computed.TheVariants as computed
use Rattle.op_rules.specs.Numbers.{in_range, divided, floor_quotient, floor_rest}
use Rattle.op_rules.specs.Division.{quotient_by, rest_by}

next_product : (n k : ℕ) → suc n * k ≡ n * k + k
next_product n k = omega arith

-- a number has one quotient
unique : (n k q r : ℕ) → r < k → q * k + r ≡ n → n / k ≡ q
unique n k q r h e = rw (sym e) (div-mul-add q k r h)

exact : (a k q : ℕ) → 0 < k → q * k ≡ suc a → a / k + 1 ≡ q
exact a k zero some e = absurd (omega arith)
exact a k (suc p) some e = let u : a / k ≡ p = unique a k p (k - 1) (omega arith) (omega arith) in omega arith

next_within : (n k : ℕ) → n % k + 1 < k → suc n / k ≡ n / k
next_within n k h = unique (suc n) k (n / k) (n % k + 1) h (omega (arith, div-add-mod' n k))

next_beyond : (n k : ℕ) → 0 < k → n % k + 1 ≡ k → suc n / k ≡ n / k + 1
next_beyond n k some h = unique (suc n) k (n / k + 1) 0 some (omega (arith, div-add-mod' n k))

none_or_some : (r : ℕ) → (r ≡ 0) ⊎ (0 < r)
none_or_some zero = inl refl
none_or_some (suc r) = inr (omega arith)

at_zero : (x y : ℤ) (r : ℕ) → r ≡ 0 → (if true && int_lt (pos 0) (pos r) then x else y) ≡ y
at_zero x y r e = rw e refl

past_zero : (x y : ℤ) (r : ℕ) → 0 < r → (if true && int_lt (pos 0) (pos r) then x else y) ≡ x
past_zero x y r e = let t : int_lt (pos 0) (pos r) ≡ true = grind (arith, ints) in rw t refl

not_negative : (b : ℕ) → int_lt (pos b) (pos 0) ≡ false
not_negative b = grind (arith, ints)

at_exact : (a k : ℕ) → 0 < k → suc a % k ≡ 0 → a / k + 1 ≡ suc a / k
at_exact a k some e = exact a k (suc a / k) some (omega (arith, div-add-mod' (suc a) k))

past_exact : (a k : ℕ) → 0 < k → 0 < suc a % k → a / k ≡ suc a / k
past_exact a k some e = unique a k (suc a / k) (suc a % k - 1) (omega (arith, mod-lt (suc a) some)) (omega (arith, div-add-mod' (suc a) k))

positive_over : (a b : ℕ) → (suc a % suc b ≡ 0) ⊎ (0 < suc a % suc b) → quotient_by (pos (suc a)) (negsuc b) ≡ negsuc (a / suc b)
positive_over a b (inl e) =
    let q : a / suc b + 1 ≡ suc a / suc b = at_exact a (suc b) (omega arith) e in
    let t : neg_ℤ (pos (suc a / suc b)) ≡ negsuc (a / suc b) = omega (arith, ints) in
    at_zero _ _ (suc a % suc b) e ∙ t
positive_over a b (inr s) =
    let q : a / suc b ≡ suc a / suc b = past_exact a (suc b) (omega arith) s in
    let t : neg_ℤ (pos (suc a / suc b)) -ℤ pos 1 ≡ negsuc (a / suc b) = omega (arith, ints) in
    past_zero _ _ (suc a % suc b) s ∙ t

negative_over : (a b : ℕ) → (suc b - 1 - a % suc b ≡ 0) ⊎ (0 < suc b - 1 - a % suc b) → quotient_by (negsuc a) (negsuc b) ≡ pos (suc a / suc b)
negative_over a b (inl e) =
    let q : suc a / suc b ≡ a / suc b + 1 = next_beyond a (suc b) (omega arith) (omega (arith, mod-lt a {m = suc b} (omega arith))) in
    let t : pos (suc (a / suc b)) ≡ pos (suc a / suc b) = omega (arith, ints) in
    at_zero _ _ (suc b - 1 - a % suc b) e ∙ t
negative_over a b (inr s) =
    let q : suc a / suc b ≡ a / suc b = next_within a (suc b) (omega arith) in
    let t : pos (suc (a / suc b)) -ℤ pos 1 ≡ pos (suc a / suc b) = omega (arith, ints) in
    past_zero _ _ (suc b - 1 - a % suc b) s ∙ t

quotient_is : (a b : ℤ) → int_eq b (pos 0) ≡ false → quotient_by a b ≡ floor_quotient a b
quotient_is (pos a) (pos b) h = rw (not_negative b) refl
quotient_is (negsuc a) (pos b) h = rw (not_negative b) refl
quotient_is (pos zero) (negsuc b) h = rw (zero-mod (suc b), zero-div (suc b)) refl
quotient_is (pos (suc a)) (negsuc b) h = positive_over a b (none_or_some (suc a % suc b))
quotient_is (negsuc a) (negsuc b) h = negative_over a b (none_or_some (suc b - 1 - a % suc b))

positive_rest : (a b : ℕ) → (suc a % suc b ≡ 0) ⊎ (0 < suc a % suc b) → rest_by (pos (suc a)) (negsuc b) ≡ floor_rest (pos (suc a)) (negsuc b)
positive_rest a b (inl e) =
    let q : a / suc b + 1 ≡ suc a / suc b = at_exact a (suc b) (omega arith) e in
    let q_product : suc (a / suc b) * suc b ≡ suc a / suc b * suc b = ap (λ x. x * suc b) (sym (add-one (a / suc b)) ∙ q) in
    let t : pos (suc a % suc b) ≡ pos (suc a) -ℤ negsuc (a / suc b) *ℤ negsuc b = omega (arith, ints, div-add-mod' (suc a) (suc b), next_product (a / suc b) (suc b), q_product) in
    at_zero _ _ (suc a % suc b) e ∙ t
positive_rest a b (inr s) =
    let q : a / suc b ≡ suc a / suc b = past_exact a (suc b) (omega arith) s in
    let t : pos (suc a % suc b) +ℤ negsuc b ≡ pos (suc a) -ℤ negsuc (a / suc b) *ℤ negsuc b = omega (arith, ints, div-add-mod' (suc a) (suc b), next_product (a / suc b) (suc b), ap (λ x. x * suc b) q) in
    past_zero _ _ (suc a % suc b) s ∙ t

negative_rest : (a b : ℕ) → (suc b - 1 - a % suc b ≡ 0) ⊎ (0 < suc b - 1 - a % suc b) → rest_by (negsuc a) (negsuc b) ≡ floor_rest (negsuc a) (negsuc b)
negative_rest a b (inl e) =
    let q : suc a / suc b ≡ a / suc b + 1 = next_beyond a (suc b) (omega arith) (omega (arith, mod-lt a {m = suc b} (omega arith))) in
    let t : pos (suc b - 1 - a % suc b) ≡ negsuc a -ℤ pos (suc a / suc b) *ℤ negsuc b = omega (arith, ints, div-add-mod' a (suc b), next_product (a / suc b) (suc b), ap (λ x. x * suc b) q, mod-lt a {m = suc b} (omega arith)) in
    at_zero _ _ (suc b - 1 - a % suc b) e ∙ t
negative_rest a b (inr s) =
    let q : suc a / suc b ≡ a / suc b = next_within a (suc b) (omega arith) in
    let t : pos (suc b - 1 - a % suc b) +ℤ negsuc b ≡ negsuc a -ℤ pos (suc a / suc b) *ℤ negsuc b = omega (arith, ints, div-add-mod' a (suc b), ap (λ x. x * suc b) q, mod-lt a {m = suc b} (omega arith)) in
    past_zero _ _ (suc b - 1 - a % suc b) s ∙ t

rest_is : (a b : ℤ) → int_eq b (pos 0) ≡ false → rest_by a b ≡ floor_rest a b
rest_is (pos a) (pos b) h = rw (not_negative b) (omega (arith, ints, div-add-mod' a b))
rest_is (negsuc a) (pos zero) h = absurd (cc)
rest_is (negsuc a) (pos (suc b)) h = rw (not_negative (suc b)) (omega (arith, ints, div-add-mod' a (suc b), mod-lt a {m = suc b} (omega arith)))
rest_is (pos zero) (negsuc b) h = rw (zero-mod (suc b), zero-div (suc b), zero-mul (suc b)) refl
rest_is (pos (suc a)) (negsuc b) h = positive_rest a b (none_or_some (suc a % suc b))
rest_is (negsuc a) (negsuc b) h = negative_rest a b (none_or_some (suc b - 1 - a % suc b))

divided_by : (test : Bool) (x y : ℤ) (r : Computed) → (test ≡ false → x ≡ y) → r ≡ (if test then computed.ZeroDivision else in_range x) → r ≡ (if test then computed.ZeroDivision else in_range y)
divided_by true x y r is e = e
divided_by false x y r is e = e ∙ ap in_range (is refl)

pub quotient_from : (a b c d : ℤ) (r : Computed) → c ≡ a → d ≡ b → r ≡ divided d (quotient_by c d) → r ≡ divided b (floor_quotient a b)
quotient_from a b c d r e f h =
    divided_by (int_eq b (pos 0)) (quotient_by a b) (floor_quotient a b) r (quotient_is a b) (h ∙ (λ i. divided (f i) (quotient_by (e i) (f i))))

pub rest_from : (a b c d : ℤ) (r : Computed) → c ≡ a → d ≡ b → r ≡ divided d (rest_by c d) → r ≡ divided b (floor_rest a b)
rest_from a b c d r e f h =
    divided_by (int_eq b (pos 0)) (rest_by a b) (floor_rest a b) r (rest_is a b) (h ∙ (λ i. divided (f i) (rest_by (e i) (f i))))
