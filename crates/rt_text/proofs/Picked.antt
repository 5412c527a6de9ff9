-- Characters at places in steps, and none outside the text.
use Rattle.std.proofs.Common.{◌≡◌, ℕ, zero, suc, ◌-◌, ◌<◌, ◌≤◌, ◌^◌, ◌⊎◌, inl, inr, ℤ, pos, negsuc, ◌+ℤ◌, Bool, true, false, List, [], ◌++◌, length, FitsSigned, refl, sym, ap, ◌∙◌, arith, append_assoc}
use Rattle.std.specs.Int.{w128}
use Rattle.std.specs.Prelude.{int_lt, encode_utf8_all}
use Rattle.std.specs.Option.{option_to_list}
use Rattle.std.proofs.lemmas.Int.{ints}
use Rattle.std.proofs.lemmas.Option.{slice_get_past}
use Rattle.std.proofs.lemmas.Str.{encodes-append}
use Rattle.op_rules.specs.TextAccess.{character_from, picked}

pub picked_next : (cs : List ℕ) (place step : ℤ) (n : ℕ) → 0 < n
    → encode_utf8_all (picked cs place step n) ≡ encode_utf8_all (option_to_list (character_from cs place)) ++ encode_utf8_all (picked cs (place +ℤ step) step (n - 1))
picked_next cs place step zero h = absurd (omega arith)
picked_next cs place step (suc n) h =
    let back : suc n - 1 ≡ n = omega arith in
    encodes-append (option_to_list (character_from cs place)) (picked cs (place +ℤ step) step n)
    ∙ ap (λ k. encode_utf8_all (option_to_list (character_from cs place)) ++ encode_utf8_all (picked cs (place +ℤ step) step k)) (sym back)

either : (b : Bool) → (b ≡ true) ⊎ (b ≡ false)
either true = inl refl
either false = inr refl

-- behind the end, going on

behind : (len m : ℕ) → int_lt (pos m) (pos len) ≡ false → len ≤ m
behind len m h = grind (arith, ints)

nothing_up : (cs : List ℕ) (place : ℤ) → int_lt place (pos (length cs)) ≡ false → option_to_list (character_from cs place) ≡ []
nothing_up cs (pos m) h = ap option_to_list (slice_get_past cs m (behind (length cs) m h))
nothing_up cs (negsuc m) h = refl

on_up : (len : ℕ) (place step : ℤ) → int_lt place (pos len) ≡ false → int_lt step (pos 0) ≡ false → int_lt (place +ℤ step) (pos len) ≡ false
on_up len place step h g = grind (arith, ints)

picked_up : (cs : List ℕ) (place step : ℤ) (n : ℕ) → int_lt place (pos (length cs)) ≡ false → int_lt step (pos 0) ≡ false → picked cs place step n ≡ []
picked_up cs place step zero h g = refl
picked_up cs place step (suc n) h g = rw (nothing_up cs place h) (picked_up cs (place +ℤ step) step n (on_up (length cs) place step h g) g)

-- before the first, going back

before : (m : ℕ) → int_lt (pos m) (pos 0) ≡ true → ⊥
before m h = grind (arith, ints)

nothing_down : (cs : List ℕ) (place : ℤ) → int_lt place (pos 0) ≡ true → option_to_list (character_from cs place) ≡ []
nothing_down cs (pos m) h = absurd (before m h)
nothing_down cs (negsuc m) h = refl

on_down : (place step : ℤ) → int_lt place (pos 0) ≡ true → int_lt step (pos 0) ≡ true → int_lt (place +ℤ step) (pos 0) ≡ true
on_down place step h g = grind (arith, ints)

picked_down : (cs : List ℕ) (place step : ℤ) (n : ℕ) → int_lt place (pos 0) ≡ true → int_lt step (pos 0) ≡ true → picked cs place step n ≡ []
picked_down cs place step zero h g = refl
picked_down cs place step (suc n) h g = rw (nothing_down cs place h) (picked_down cs (place +ℤ step) step n (on_down place step h g) g)

-- no integer is a place of an item

fits_up : (len : ℕ) (place step : ℤ) → len < 2 ^ 64 → FitsSigned w128 place → FitsSigned w128 step → int_lt step (pos 0) ≡ false → int_lt (place +ℤ step) (pos len) ≡ true → FitsSigned w128 (place +ℤ step)
fits_up len place step l f g s e = grind (arith, ints)

fits_down : (place step : ℤ) → FitsSigned w128 place → FitsSigned w128 step → int_lt step (pos 0) ≡ true → int_lt (place +ℤ step) (pos 0) ≡ false → FitsSigned w128 (place +ℤ step)
fits_down place step f g s e = grind (arith, ints)

far_up : (cs : List ℕ) (place step : ℤ) (n : ℕ) → length cs < 2 ^ 64 → FitsSigned w128 place → FitsSigned w128 step → (FitsSigned w128 (place +ℤ step) → ⊥) → int_lt step (pos 0) ≡ false → picked cs (place +ℤ step) step n ≡ []
far_up cs place step n l f g h s =
    elim (either (int_lt (place +ℤ step) (pos (length cs)))) [
      | inl e ↦ absurd (h (fits_up (length cs) place step l f g s e))
      | inr e ↦ picked_up cs (place +ℤ step) step n e s
    ]

far_down : (cs : List ℕ) (place step : ℤ) (n : ℕ) → FitsSigned w128 place → FitsSigned w128 step → (FitsSigned w128 (place +ℤ step) → ⊥) → int_lt step (pos 0) ≡ true → picked cs (place +ℤ step) step n ≡ []
far_down cs place step n f g h s =
    elim (either (int_lt (place +ℤ step) (pos 0))) [
      | inl e ↦ picked_down cs (place +ℤ step) step n e s
      | inr e ↦ absurd (h (fits_down place step f g s e))
    ]

picked_past_end : (cs : List ℕ) (place step : ℤ) (n : ℕ) → length cs < 2 ^ 64 → FitsSigned w128 place → FitsSigned w128 step → (FitsSigned w128 (place +ℤ step) → ⊥) → picked cs (place +ℤ step) step n ≡ []
picked_past_end cs place step n l f g h =
    elim (either (int_lt step (pos 0))) [
      | inl s ↦ far_down cs place step n f g h s
      | inr s ↦ far_up cs place step n l f g h s
    ]

pub picked_past : (cs : List ℕ) (place step : ℤ) (n : ℕ) → length cs < 2 ^ 64 → FitsSigned w128 place → FitsSigned w128 step → (FitsSigned w128 (place +ℤ step) → ⊥) → encode_utf8_all (picked cs (place +ℤ step) step n) ≡ []
picked_past cs place step n l f g h = ap encode_utf8_all (picked_past_end cs place step n l f g h)

-- one character pushed
pub one_pushed : (all now cs whole : List ℕ) (place step next : ℤ) (left : ℕ) → 0 < left → next ≡ place +ℤ step
    → now ≡ all ++ encode_utf8_all (option_to_list (character_from cs place))
    → all ++ encode_utf8_all (picked cs place step left) ≡ whole → now ++ encode_utf8_all (picked cs next step (left - 1)) ≡ whole
one_pushed all now cs whole place step next left h is pushed before =
    ap (λ l. l ++ encode_utf8_all (picked cs next step (left - 1))) pushed
    ∙ append_assoc all (encode_utf8_all (option_to_list (character_from cs place))) (encode_utf8_all (picked cs next step (left - 1)))
    ∙ ap (λ z. all ++ (encode_utf8_all (option_to_list (character_from cs place)) ++ encode_utf8_all (picked cs z step (left - 1)))) is
    ∙ ap (λ l. all ++ l) (sym (picked_next cs place step left h))
    ∙ before
