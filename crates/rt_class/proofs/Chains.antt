-- Chains of classes, class by class.
use Rattle.std.proofs.Common.{◌≡◌, ℕ, zero, suc, ◌-◌, ◌<◌, ◌≤◌, List, Option, Some, None, Bool, true, false, refl, ap, ◌∙◌, arith}
use Rattle.std.specs.Prelude.{◌||◌, nat_eq, slice_get}
use Rattle.std.proofs.lemmas.Bool.Decides.{Decides-eqb}
use Rattle.nu_value.specs.declared.object.Object.{Object}
use Rattle.nu_value.specs.Classes.{own_of, base_of, outward, is_among, first_of, first_named}
use Rattle.nu_value.specs.Names.{value_at}

less : (room : ℕ) → room ≡ suc room - 1
less room = omega arith

pub named_step : (room : ℕ) (h : List Object) (n : ℕ) (name : List ℕ) → 0 < room → first_named h (outward room h (Some n)) name ≡ first_of (value_at (own_of (slice_get h n)) name) (first_named h (outward (room - 1) h (base_of (slice_get h n))) name)
named_step zero h n name p = absurd (omega arith)
named_step (suc room) h n name p =
    ap (λ k. first_of (value_at (own_of (slice_get h n)) name) (first_named h (outward k h (base_of (slice_get h n))) name)) (less room)

pub named_end : (room : ℕ) (h : List Object) (name : List ℕ) → first_named h (outward room h None) name ≡ None
named_end zero h name = refl
named_end (suc room) h name = refl

pub among_step : (room : ℕ) (h : List Object) (n class : ℕ) → 0 < room → is_among (outward room h (Some n)) class ≡ (nat_eq n class || is_among (outward (room - 1) h (base_of (slice_get h n))) class)
among_step zero h n class p = absurd (omega arith)
among_step (suc room) h n class p = ap (λ k. nat_eq n class || is_among (outward k h (base_of (slice_get h n))) class) (less room)

pub among_end : (room : ℕ) (h : List Object) (class : ℕ) → is_among (outward room h None) class ≡ false
among_end zero h class = refl
among_end (suc room) h class = refl

pub named_past : (room : ℕ) (h : List Object) (c : Option ℕ) (name : List ℕ) → room ≤ 0 → first_named h (outward room h c) name ≡ None
named_past zero h c name p = refl
named_past (suc room) h c name p = absurd (omega (arith, p))

pub among_past : (room : ℕ) (h : List Object) (c : Option ℕ) (class : ℕ) → room ≤ 0 → is_among (outward room h c) class ≡ false
among_past zero h c class p = refl
among_past (suc room) h c class p = absurd (omega (arith, p))

not_true : (b : Bool) → (b ≡ true → ⊥) → b ≡ false
not_true true h = absurd (h refl)
not_true false h = refl

pub among_here : (room : ℕ) (h : List Object) (n class : ℕ) → 0 < room → n ≡ class → is_among (outward room h (Some n)) class ≡ true
among_here room h n class p e =
    among_step room h n class p ∙ ap (λ t. t || is_among (outward (room - 1) h (base_of (slice_get h n))) class) ((Decides-eqb n class).1 e)

pub among_next : (room : ℕ) (h : List Object) (n class : ℕ) → 0 < room → (n ≡ class → ⊥) → is_among (outward room h (Some n)) class ≡ is_among (outward (room - 1) h (base_of (slice_get h n))) class
among_next room h n class p e =
    among_step room h n class p
    ∙ ap (λ t. t || is_among (outward (room - 1) h (base_of (slice_get h n))) class) (not_true (nat_eq n class) (λ t. e ((Decides-eqb n class).0 t)))
