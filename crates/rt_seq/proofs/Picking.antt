-- Items at places in steps, and none outside the list.
use Rattle.std.proofs.Common.{◌≡◌, ℕ, zero, suc, ◌-◌, ◌<◌, ◌≤◌, ◌^◌, ◌⊎◌, inl, inr, ℤ, pos, negsuc, ◌+ℤ◌, Bool, true, false, List, [], ◌++◌, length, FitsSigned, refl, sym, ap, ◌∙◌, arith}
use Rattle.std.specs.Int.{w128}
use Rattle.std.specs.Prelude.{int_lt}
use Rattle.std.specs.Option.{option_to_list}
use Rattle.std.proofs.lemmas.Int.{ints}
use Rattle.std.proofs.lemmas.List.{append_assoc, append-nil}
use Rattle.std.proofs.lemmas.Option.{slice_get_past}
use Rattle.nu_value.specs.declared.value.Value.{Value}
use Rattle.op_rules.specs.Slices.{item_list, picked}

pub picked_next : (items : List Value) (place step : ℤ) (n : ℕ) → 0 < n → picked items place step n ≡ item_list items place ++ picked items (place +ℤ step) step (n - 1)
picked_next items place step zero h = absurd (omega arith)
picked_next items place step (suc n) h = let back : suc n - 1 ≡ n = omega arith in rw back refl

-- one item more
pub picked_on : (all new items : List Value) (place step next : ℤ) (n : ℕ) → 0 < n → new ≡ all ++ item_list items place → next ≡ place +ℤ step → new ++ picked items next step (n - 1) ≡ all ++ picked items place step n
picked_on all new items place step next n h e f =
    rw (e, f) (append_assoc all (item_list items place) (picked items (place +ℤ step) step (n - 1)) ∙ ap (λ r. all ++ r) (sym (picked_next items place step n h)))

pub either : (b : Bool) → (b ≡ true) ⊎ (b ≡ false)
either true = inl refl
either false = inr refl

-- behind the end, going on

behind : (len m : ℕ) → int_lt (pos m) (pos len) ≡ false → len ≤ m
behind len m h = grind (arith, ints)

nothing_up : (items : List Value) (place : ℤ) → int_lt place (pos (length items)) ≡ false → item_list items place ≡ []
nothing_up items (pos m) h = ap option_to_list (slice_get_past items m (behind (length items) m h))
nothing_up items (negsuc m) h = refl

on_up : (len : ℕ) (place step : ℤ) → int_lt place (pos len) ≡ false → int_lt step (pos 0) ≡ false → int_lt (place +ℤ step) (pos len) ≡ false
on_up len place step h g = grind (arith, ints)

picked_up : (items : List Value) (place step : ℤ) (n : ℕ) → int_lt place (pos (length items)) ≡ false → int_lt step (pos 0) ≡ false → picked items place step n ≡ []
picked_up items place step zero h g = refl
picked_up items place step (suc n) h g = rw (nothing_up items place h) (picked_up items (place +ℤ step) step n (on_up (length items) place step h g) g)

-- before the first, going back

before : (m : ℕ) → int_lt (pos m) (pos 0) ≡ true → ⊥
before m h = grind (arith, ints)

nothing_down : (items : List Value) (place : ℤ) → int_lt place (pos 0) ≡ true → item_list items place ≡ []
nothing_down items (pos m) h = absurd (before m h)
nothing_down items (negsuc m) h = refl

on_down : (place step : ℤ) → int_lt place (pos 0) ≡ true → int_lt step (pos 0) ≡ true → int_lt (place +ℤ step) (pos 0) ≡ true
on_down place step h g = grind (arith, ints)

picked_down : (items : List Value) (place step : ℤ) (n : ℕ) → int_lt place (pos 0) ≡ true → int_lt step (pos 0) ≡ true → picked items place step n ≡ []
picked_down items place step zero h g = refl
picked_down items place step (suc n) h g = rw (nothing_down items place h) (picked_down items (place +ℤ step) step n (on_down place step h g) g)

-- no integer is a place of an item

fits_up : (len : ℕ) (place step : ℤ) → len < 2 ^ 64 → FitsSigned w128 place → FitsSigned w128 step → int_lt step (pos 0) ≡ false → int_lt (place +ℤ step) (pos len) ≡ true → FitsSigned w128 (place +ℤ step)
fits_up len place step l f g s e = grind (arith, ints)

fits_down : (place step : ℤ) → FitsSigned w128 place → FitsSigned w128 step → int_lt step (pos 0) ≡ true → int_lt (place +ℤ step) (pos 0) ≡ false → FitsSigned w128 (place +ℤ step)
fits_down place step f g s e = grind (arith, ints)

far_up : (items : List Value) (place step : ℤ) (n : ℕ) → length items < 2 ^ 64 → FitsSigned w128 place → FitsSigned w128 step → (FitsSigned w128 (place +ℤ step) → ⊥) → int_lt step (pos 0) ≡ false → picked items (place +ℤ step) step n ≡ []
far_up items place step n l f g h s =
    elim (either (int_lt (place +ℤ step) (pos (length items)))) [
      | inl e ↦ absurd (h (fits_up (length items) place step l f g s e))
      | inr e ↦ picked_up items (place +ℤ step) step n e s
    ]

far_down : (items : List Value) (place step : ℤ) (n : ℕ) → FitsSigned w128 place → FitsSigned w128 step → (FitsSigned w128 (place +ℤ step) → ⊥) → int_lt step (pos 0) ≡ true → picked items (place +ℤ step) step n ≡ []
far_down items place step n f g h s =
    elim (either (int_lt (place +ℤ step) (pos 0))) [
      | inl e ↦ picked_down items (place +ℤ step) step n e s
      | inr e ↦ absurd (h (fits_down place step f g s e))
    ]

pub picked_past : (items : List Value) (place step : ℤ) (n : ℕ) → length items < 2 ^ 64 → FitsSigned w128 place → FitsSigned w128 step → (FitsSigned w128 (place +ℤ step) → ⊥) → picked items (place +ℤ step) step n ≡ []
picked_past items place step n l f g h =
    elim (either (int_lt step (pos 0))) [
      | inl s ↦ far_down items place step n f g h s
      | inr s ↦ far_up items place step n l f g h s
    ]

-- the last item within all integers
pub picked_end : (all new items : List Value) (place step : ℤ) (n : ℕ) → 0 < n → length items < 2 ^ 64 → FitsSigned w128 place → FitsSigned w128 step → (FitsSigned w128 (place +ℤ step) → ⊥) → new ≡ all ++ item_list items place → new ≡ all ++ picked items place step n
picked_end all new items place step n p l f g h e =
    e ∙ ap (λ r. all ++ r) (sym (picked_next items place step n p ∙ ap (λ r. item_list items place ++ r) (picked_past items place step (n - 1) l f g h) ∙ append-nil (item_list items place)))
