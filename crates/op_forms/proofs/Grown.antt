-- Objects and new ones, and lists in which an item is another.
use Rattle.std.proofs.Common.{◌≡◌, ℕ, zero, suc, ◌+◌, ◌<◌, List, [], ◌∷◌, ◌++◌, Some, refl, sym, ap, ◌∙◌, arith, length, length-append, inl, inr}
use Rattle.std.specs.Prelude.{◌⊎◌, slice_get, slice_set}
use Rattle.std.proofs.lemmas.List.{append-nil}
use Rattle.nu_value.specs.declared.object.Object.{Object}
use Rattle.op_forms.specs.Doing.{grown}

-- what stands in a list in which one item is another
pub set_cases : {A : Type 0} (xs : List A) (i : ℕ) (y : A) (k : ℕ) (x : A) → slice_get (slice_set xs i y) k ≡ Some x → ((k ≡ i) × (x ≡ y)) ⊎ (slice_get xs k ≡ Some x)
set_cases [] i y k x e = inr e
set_cases (z ∷ xs) zero y zero x e = inl (refl, cc)
set_cases (z ∷ xs) zero y (suc k) x e = inr e
set_cases (z ∷ xs) (suc i) y zero x e = inr e
set_cases (z ∷ xs) (suc i) y (suc k) x e =
    elim (set_cases xs i y k x e) [ inl p ↦ inl (ap suc p.0, p.1) | inr q ↦ inr q ]

pub set_other : {A : Type 0} (xs : List A) (i : ℕ) (y : A) (k : ℕ) → (k ≡ i → ⊥) → slice_get (slice_set xs i y) k ≡ slice_get xs k
set_other [] i y k apart = refl
set_other (z ∷ xs) zero y zero apart = absurd (apart refl)
set_other (z ∷ xs) zero y (suc k) apart = refl
set_other (z ∷ xs) (suc i) y zero apart = refl
set_other (z ∷ xs) (suc i) y (suc k) apart = set_other xs i y k (λ e. apart (ap suc e))

pub set_same : {A : Type 0} (xs : List A) (i : ℕ) (y : A) → slice_get xs i ≡ Some y → (k : ℕ) → slice_get (slice_set xs i y) k ≡ slice_get xs k
set_same [] i y e k = refl
set_same (x ∷ xs) zero y e zero = sym e
set_same (x ∷ xs) zero y e (suc k) = refl
set_same (x ∷ xs) (suc i) y e zero = refl
set_same (x ∷ xs) (suc i) y e (suc k) = set_same xs i y e k

pub before_end : {A : Type 0} (xs ys : List A) (k : ℕ) → k < length xs → slice_get (xs ++ ys) k ≡ slice_get xs k
before_end [] ys k h = absurd (omega arith)
before_end (x ∷ xs) ys zero h = refl
before_end (x ∷ xs) ys (suc k) h = before_end xs ys k (omega arith)

-- an item of a list and more
either : {A : Type 0} (xs ys : List A) (k : ℕ) (x : A) → slice_get (xs ++ ys) k ≡ Some x → (slice_get xs k ≡ Some x) ⊎ ((j : ℕ) × (k ≡ j + length xs) × (slice_get ys j ≡ Some x))
either [] ys k x e = inr (k, omega arith, e)
either (y ∷ xs) ys zero x e = inl e
either (y ∷ xs) ys (suc k) x e =
    elim (either xs ys k x e) [ inl p ↦ inl p | inr q ↦ inr (q.0, omega (arith, q.1), q.2) ]

pub grown_is : (h os : List Object) → grown h os ≡ h ++ os
grown_is h [] = sym (append-nil h)
grown_is h (o ∷ os) = refl

pub grown_length : (h os : List Object) → length (grown h os) ≡ length os + length h
grown_length h os = omega (arith, ap length (grown_is h os), length-append h os)

pub grown_before : (h os : List Object) (k : ℕ) → k < length h → slice_get (grown h os) k ≡ slice_get h k
grown_before h os k p = ap (λ x. slice_get x k) (grown_is h os) ∙ before_end h os k p

pub grown_either : (h os : List Object) (k : ℕ) (x : Object) → slice_get (grown h os) k ≡ Some x → (slice_get h k ≡ Some x) ⊎ ((j : ℕ) × (k ≡ j + length h) × (slice_get os j ≡ Some x))
grown_either h os k x e = either h os k x (sym (ap (λ y. slice_get y k) (grown_is h os)) ∙ e)
