-- The numbers of a range lie between its bounds.
use Rattle.std.proofs.Common.{◌≡◌, ℕ, ◌-◌, ◌*◌, ◌/◌, ◌<◌, ◌≤◌, ◌⊎◌, inl, inr, ℤ, pos, ◌+ℤ◌, ◌-ℤ◌, ◌*ℤ◌, zero, suc, negsuc, Bool, true, false, true≢false, ◌&&◌, ◌||◌, if◌then◌else◌, FitsSigned, Fits, refl, sym, ap, ◌∙◌, arith}
use Rattle.std.specs.Int.{w128}
use lib.IntN.{neg_ℤ}
use Rattle.std.specs.Prelude.{int_lt, unsigned_abs}
use Rattle.std.proofs.lemmas.Int.{ints}
use Rattle.std.proofs.lemmas.Bool.Decides.{nat_tests}
use Rattle.std.proofs.Math.Nat.{mul-le-mul_right, div-mul-le_self}
use Rattle.nu_value.specs.Ranges.{range_count, steps_within}

-- which way a range that gives a number goes
record Goes (ahead : Bool) (behind : Bool) (n m : ℕ) : Type 0 where
  pub is : n ≡ m
  pub way : (ahead ≡ true) × (behind ≡ true)

by_way : (b c d e : Bool) (n k : ℕ) → k < (if b && c || d && e then n else 0) → Goes b c (if b && c || d && e then n else 0) n ⊎ Goes d e (if b && c || d && e then n else 0) n
by_way true true d e n k h = inl (record { is = refl; way = (refl, refl) })
by_way true false true true n k h = inr (record { is = refl; way = (refl, refl) })
by_way true false true false n k h = absurd (omega (arith, h))
by_way true false false e n k h = absurd (omega (arith, h))
by_way false c true true n k h = inr (record { is = refl; way = (refl, refl) })
by_way false c true false n k h = absurd (omega (arith, h))
by_way false c false e n k h = absurd (omega (arith, h))

steps_short : (d s k : ℕ) → k < steps_within d s → k * s ≤ d - 1
steps_short d s k h =
    let l : k ≤ (d - 1) / s = omega arith in
    let m : k * s ≤ (d - 1) / s * s = mul-le-mul_right s l in
    let q : (d - 1) / s * s ≤ d - 1 = div-mul-le_self (d - 1) s in
    omega arith

-- so many steps stay within
within_up : (start stop : ℤ) (n : ℕ) → FitsSigned w128 start → FitsSigned w128 stop → int_lt start stop ≡ true → n ≤ unsigned_abs (start -ℤ stop) - 1 → FitsSigned w128 (start +ℤ pos n)
within_up start stop n f g h l = grind (arith, ints)

within_down : (start stop : ℤ) (n : ℕ) → FitsSigned w128 start → FitsSigned w128 stop → int_lt stop start ≡ true → n ≤ unsigned_abs (start -ℤ stop) - 1 → FitsSigned w128 (start -ℤ pos n)
within_down start stop n f g h l = grind (arith, ints)

short : (start stop : ℤ) (n : ℕ) → FitsSigned w128 start → FitsSigned w128 stop → n ≤ unsigned_abs (start -ℤ stop) - 1 → Fits w128 n
short start stop n f g l = grind (arith, ints)

pub offset_short : (start stop step : ℤ) (k : ℕ) → k < range_count start stop step → k * unsigned_abs step ≤ unsigned_abs (start -ℤ stop) - 1
offset_short start stop step k h =
    elim (by_way (int_lt (pos 0) step) (int_lt start stop) (int_lt step (pos 0)) (int_lt stop start) (steps_within (unsigned_abs (start -ℤ stop)) (unsigned_abs step)) k h) [
      | inl g ↦ steps_short (unsigned_abs (start -ℤ stop)) (unsigned_abs step) k (rw (sym g.is) h)
      | inr g ↦ steps_short (unsigned_abs (start -ℤ stop)) (unsigned_abs step) k (rw (sym g.is) h)
    ]

pub place_short : (start stop step : ℤ) (k : ℕ) → FitsSigned w128 start → FitsSigned w128 stop → k < range_count start stop step → Fits w128 (k * unsigned_abs step)
place_short start stop step k f g h = short start stop _ f g (offset_short start stop step k h)

both_ways : (step : ℤ) → int_lt (pos 0) step ≡ true → int_lt step (pos 0) ≡ true → ⊥
both_ways step h g = grind (arith, ints)

pub place_up : (start stop step : ℤ) (k : ℕ) → FitsSigned w128 start → FitsSigned w128 stop → k < range_count start stop step → int_lt (pos 0) step ≡ true → FitsSigned w128 (start +ℤ pos (k * unsigned_abs step))
place_up start stop step k f g h w =
    elim (by_way (int_lt (pos 0) step) (int_lt start stop) (int_lt step (pos 0)) (int_lt stop start) (steps_within (unsigned_abs (start -ℤ stop)) (unsigned_abs step)) k h) [
      | inl e ↦ within_up start stop _ f g e.way.1 (offset_short start stop step k h)
      | inr e ↦ absurd (both_ways step w e.way.0)
    ]

pub place_down : (start stop step : ℤ) (k : ℕ) → FitsSigned w128 start → FitsSigned w128 stop → k < range_count start stop step → int_lt (pos 0) step ≡ false → FitsSigned w128 (start -ℤ pos (k * unsigned_abs step))
place_down start stop step k f g h w =
    elim (by_way (int_lt (pos 0) step) (int_lt start stop) (int_lt step (pos 0)) (int_lt stop start) (steps_within (unsigned_abs (start -ℤ stop)) (unsigned_abs step)) k h) [
      | inl e ↦ absurd (true≢false (sym e.way.0 ∙ w))
      | inr e ↦ within_down start stop _ f g e.way.1 (offset_short start stop step k h)
    ]

pub up_is : (start step : ℤ) (n : ℕ) → int_lt (pos 0) step ≡ true → start +ℤ pos (n * unsigned_abs step) ≡ start +ℤ step *ℤ pos n
up_is start (pos m) n h = ap (λ z. start +ℤ pos z) (turned n m)
  where
    turned : (n m : ℕ) → n * m ≡ m * n
    turned n m = grind arith
up_is start (negsuc m) n h = cc

pub down_is : (start step : ℤ) (n : ℕ) → int_lt (pos 0) step ≡ false → start -ℤ pos (n * unsigned_abs step) ≡ start +ℤ step *ℤ pos n
down_is start (pos zero) n h = rw (none n, other n) refl
  where
    none : (n : ℕ) → n * 0 ≡ 0
    none n = grind arith

    other : (n : ℕ) → 0 * n ≡ 0
    other n = grind arith
down_is start (pos (suc m)) n h = absurd (above_zero m h)
  where
    above_zero : (m : ℕ) → int_lt (pos 0) (pos (suc m)) ≡ false → ⊥
    above_zero m h = grind (arith, ints, nat_tests)
down_is start (negsuc m) n h = ap (λ z. start +ℤ neg_ℤ (pos z)) (turned n m)
  where
    turned : (n m : ℕ) → n * suc m ≡ suc m * n
    turned n m = grind arith

-- ---- which way the numbers go

pub goes_up : (start stop step : ℤ) (k : ℕ) → k < range_count start stop step → int_lt (pos 0) step ≡ true → int_lt start stop ≡ true
goes_up start stop step k h w =
    elim (by_way (int_lt (pos 0) step) (int_lt start stop) (int_lt step (pos 0)) (int_lt stop start) (steps_within (unsigned_abs (start -ℤ stop)) (unsigned_abs step)) k h) [
      | inl e ↦ e.way.1
      | inr e ↦ absurd (both_ways step w e.way.0)
    ]

pub goes_down : (start stop step : ℤ) (k : ℕ) → k < range_count start stop step → int_lt (pos 0) step ≡ false → int_lt stop start ≡ true
goes_down start stop step k h w =
    elim (by_way (int_lt (pos 0) step) (int_lt start stop) (int_lt step (pos 0)) (int_lt stop start) (steps_within (unsigned_abs (start -ℤ stop)) (unsigned_abs step)) k h) [
      | inl e ↦ absurd (true≢false (sym e.way.0 ∙ w))
      | inr e ↦ e.way.1
    ]
