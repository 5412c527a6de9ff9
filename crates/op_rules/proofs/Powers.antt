-- Powers and shifts by large numbers.
use Rattle.std.proofs.Common.{◌≡◌, ℕ, zero, suc, ◌+◌, ◌*◌, ◌/◌, ◌%◌, ◌^◌, ◌<◌, ◌≤◌, Bool, true, false, cond, refl, arith, nat_lt}
use Rattle.std.specs.Prelude.{ℤ, pos, negsuc, neg_ℤ, ◌*ℤ◌, ◌==◌, int_lt, unsigned_abs}
use Rattle.std.specs.Ordering.{int_eq}
use Rattle.std.specs.Int.{int_pow, int_div_euclid}
use Rattle.std.proofs.lemmas.Bool.Decides.{nat_tests}
use Rattle.std.proofs.lemmas.Int.{ints}
use Rattle.std.proofs.Math.Nat.{pow-le-pow_left, pow-suc, le-mul_of_pos_right, suc-mul, div-eq_of_lt}
use Rattle.std.proofs.Math.Pow.{pow_mono}
use Rattle.op_rules.specs.declared.arithmetic.Computed.TheVariants as computed
use Rattle.op_rules.specs.Numbers.{fits_int, in_range, shifted}

not_below : (m : ℕ) → 2 ^ 127 ≤ m → nat_lt m (2 ^ 127) ≡ false
not_below m h = grind (arith, nat_tests)

out : (m : ℕ) → 2 ^ 127 ≤ m → fits_int (pos m) ≡ false
out m h = not_below m h

out_below : (m : ℕ) → 2 ^ 127 < m → fits_int (neg_ℤ (pos m)) ≡ false
out_below zero h = absurd (omega arith)
out_below (suc m) h = not_below m (omega arith)

out_either : (even : Bool) (m : ℕ) → 2 ^ 127 < m → fits_int (cond even (pos m) (neg_ℤ (pos m))) ≡ false
out_either true m h = out m (omega arith)
out_either false m h = out_below m h

power_above : (a n : ℕ) → 2 ≤ a → 2 ^ 32 ≤ n → 2 ^ 127 < a ^ n
power_above a n some big =
    let p : 2 ^ 128 ≤ 2 ^ n = pow_mono {i = 128} {j = n} (omega arith) in
    let q : 2 ^ n ≤ a ^ n = pow-le-pow_left some n in
    omega arith

power_out : (a : ℤ) (n : ℕ) → 2 ≤ unsigned_abs a → 2 ^ 32 ≤ n → fits_int (int_pow a n) ≡ false
power_out (pos a) n some big = let p : 2 ^ 127 < a ^ n = power_above a n some big in out (a ^ n) (omega arith)
power_out (negsuc a) n some big = out_either (n % 2 == 0) (suc a ^ n) (power_above (suc a) n some big)

pub large : (a : ℤ) (n : ℕ) → 2 ≤ unsigned_abs a → 2 ^ 32 ≤ n → computed.TooLarge ≡ in_range (int_pow a n)
large a n some big = rw (power_out a n some big) refl

one_power : (n : ℕ) → 1 ^ n ≡ 1
one_power zero = refl
one_power (suc n) = rw (pow-suc 1 n, one_power n) refl

zero_power : (n : ℕ) → 0 < n → 0 ^ n ≡ 0
zero_power zero h = absurd (omega arith)
zero_power (suc n) h = rw (pow-suc 0 n) (omega arith)

pub minus_even : (a : ℤ) (n : ℕ) → int_eq a (negsuc 0) ≡ true → (n % 2 == 0) ≡ true → computed.Int (pos 1) ≡ in_range (int_pow a n)
minus_even (pos a) n e even = absurd (cc)
minus_even (negsuc zero) n e even = rw (even, one_power n) refl
minus_even (negsuc (suc a)) n e even = absurd (grind (arith, ints))

pub minus_odd : (a : ℤ) (n : ℕ) → int_eq a (negsuc 0) ≡ true → (n % 2 == 0) ≡ false → computed.Int (negsuc 0) ≡ in_range (int_pow a n)
minus_odd (pos a) n e odd = absurd (cc)
minus_odd (negsuc zero) n e odd = rw (odd, one_power n) refl
minus_odd (negsuc (suc a)) n e odd = absurd (grind (arith, ints))

pub of_zero : (a : ℤ) (n : ℕ) → int_eq a (pos 0) ≡ true → 2 ^ 32 ≤ n → computed.Int (pos 0) ≡ in_range (int_pow a n)
of_zero (pos zero) n e big = rw (zero_power n (omega arith)) refl
of_zero (pos (suc a)) n e big = absurd (grind (arith, ints))
of_zero (negsuc a) n e big = absurd (cc)

pub of_one : (a : ℤ) (n : ℕ) → unsigned_abs a < 2 → int_eq a (negsuc 0) ≡ false → int_eq a (pos 0) ≡ false → computed.Int (pos 1) ≡ in_range (int_pow a n)
of_one (pos zero) n h e f = absurd (cc)
of_one (pos (suc zero)) n h e f = rw (one_power n) refl
of_one (pos (suc (suc a))) n h e f = absurd (omega arith)
of_one (negsuc zero) n h e f = absurd (cc)
of_one (negsuc (suc a)) n h e f = absurd (omega arith)

shifted_out : (b : ℤ) (z : ℤ) → int_lt b (pos 0) ≡ false → fits_int z ≡ false → computed.TooLarge ≡ shifted b z
shifted_out b z h out = rw (h, out) refl

left_above : (a b : ℕ) → 0 < a → 127 ≤ b → 2 ^ 127 ≤ a * 2 ^ b
left_above a b some far =
    let p : 2 ^ 127 ≤ 2 ^ b = pow_mono {i = 127} {j = b} far in
    let q : 2 ^ b ≤ 2 ^ b * a = le-mul_of_pos_right (2 ^ b) some in
    omega arith

left_below : (a b : ℕ) → 2 ≤ a → 127 ≤ b → 2 ^ 127 < a * 2 ^ b
left_below (suc a) b some far =
    let p : 2 ^ 127 ≤ 2 ^ b = pow_mono {i = 127} {j = b} far in
    let q : 2 ^ 127 ≤ a * 2 ^ b = left_above a b (omega arith) far in
    let r : suc a * 2 ^ b ≡ a * 2 ^ b + 2 ^ b = suc-mul a (2 ^ b) in
    omega arith
left_below zero b some far = absurd (omega arith)

pub far_left : (a b : ℤ) → int_lt b (pos 0) ≡ false → int_lt b (pos 127) ≡ false → int_eq a (pos 0) ≡ false → int_eq a (negsuc 0) ≡ false → computed.TooLarge ≡ shifted b (a *ℤ pos (2 ^ unsigned_abs b))
far_left (pos a) (negsuc b) h far e f = absurd (cc)
far_left (negsuc a) (negsuc b) h far e f = absurd (cc)
far_left (pos zero) (pos b) h far e f = absurd (cc)
far_left (pos (suc a)) (pos b) h far e f =
    let far' : 127 ≤ b = grind (arith, nat_tests) in
    shifted_out (pos b) (pos (suc a * 2 ^ b)) h (out (suc a * 2 ^ b) (left_above (suc a) b (omega arith) far'))
far_left (negsuc zero) (pos b) h far e f = absurd (cc)
far_left (negsuc (suc a)) (pos b) h far e f =
    let far' : 127 ≤ b = grind (arith, nat_tests) in
    shifted_out (pos b) (neg_ℤ (pos (suc (suc a) * 2 ^ b))) h (out_below (suc (suc a) * 2 ^ b) (left_below (suc (suc a)) b (omega arith) far'))

pub minus_far_left : (a b : ℤ) → int_lt b (pos 0) ≡ false → int_lt b (pos 127) ≡ false → int_eq a (negsuc 0) ≡ true → int_eq b (pos 127) ≡ false → computed.TooLarge ≡ shifted b (a *ℤ pos (2 ^ unsigned_abs b))
minus_far_left a (negsuc b) h far e f = absurd (cc)
minus_far_left (pos a) (pos b) h far e f = absurd (cc)
minus_far_left (negsuc (suc a)) (pos b) h far e f = absurd (grind (arith, ints))
minus_far_left (negsuc zero) (pos b) h far e f =
    let far' : 128 ≤ b = grind (arith, nat_tests, ints) in
    let p : 2 ^ 128 ≤ 2 ^ b = pow_mono {i = 128} {j = b} far' in
    shifted_out (pos b) (neg_ℤ (pos (1 * 2 ^ b))) h (out_below (1 * 2 ^ b) (omega arith))

pub far_right : (a b : ℤ) → unsigned_abs a < 2 ^ 127 → int_lt b (pos 0) ≡ false → int_lt b (pos 127) ≡ false → int_lt a (pos 0) ≡ false → computed.Int (pos 0) ≡ shifted b (int_div_euclid a (pos (2 ^ unsigned_abs b)))
far_right a (negsuc b) fits h far e = absurd (cc)
far_right (negsuc a) (pos b) fits h far e = absurd (cc)
far_right (pos a) (pos b) fits h far e =
    let far' : 127 ≤ b = grind (arith, nat_tests) in
    let p : 2 ^ 127 ≤ 2 ^ b = pow_mono {i = 127} {j = b} far' in
    let q : a / 2 ^ b ≡ 0 = div-eq_of_lt {n = a} {m = 2 ^ b} (omega arith) in
    rw (h, q) refl

pub far_right_below : (a b : ℤ) → unsigned_abs a ≤ 2 ^ 127 → int_lt b (pos 0) ≡ false → int_lt b (pos 127) ≡ false → int_lt a (pos 0) ≡ true → computed.Int (negsuc 0) ≡ shifted b (int_div_euclid a (pos (2 ^ unsigned_abs b)))
far_right_below a (negsuc b) fits h far e = absurd (cc)
far_right_below (pos a) (pos b) fits h far e = absurd (grind (arith, ints))
far_right_below (negsuc a) (pos b) fits h far e =
    let far' : 127 ≤ b = grind (arith, nat_tests) in
    let p : 2 ^ 127 ≤ 2 ^ b = pow_mono {i = 127} {j = b} far' in
    let q : a / 2 ^ b ≡ 0 = div-eq_of_lt {n = a} {m = 2 ^ b} (omega arith) in
    rw (h, q) refl
