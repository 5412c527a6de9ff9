-- The temporaries of names, written.
use Rattle.std.proofs.Common.{◌≡◌, ◌≢◌, ⊎_elim, ℕ, zero, suc, ◌+◌, ◌<◌, ◌≤◌, Bool, true, false, nat_eq, length, List, [], ◌∷◌, Some, refl, sym, ap, ◌∙◌, subst, arith}
use Rattle.std.specs.Prelude.{slice_set}
use Rattle.std.proofs.lemmas.Bool.{eqb-true, eqb-false}
use Rattle.std.proofs.lemmas.List.{length-set}
use Rattle.nu_value.specs.declared.value.Value.{Value}
use Rattle.node_tree.specs.Nodes as nodes
use Rattle.py_meaning.specs.Frames as python
use Rattle.carries_base.specs.Frames.{Homes, local_at, free_at, own_at, Facts, FramesAs}
use Rattle.carries_base.specs.Carries.{Setting, S, T, Tables, Correspond}
use Rattle.nu_calls.specs.Calls.{state_of}
use Rattle.carries_base.proofs.Facts.{put_same, put_other, Off, fits_write, local_cases}

at_same : (xs : List Value) (i : ℕ) (v : Value) → i < length xs → python.at (slice_set xs i v) i ≡ v
at_same [] i v l = absurd (omega arith)
at_same (x ∷ xs) zero v l = refl
at_same (x ∷ xs) (suc i) v l = at_same xs i v (omega arith)

at_other : (xs : List Value) (i j : ℕ) (v : Value) → j ≢ i → python.at (slice_set xs i v) j ≡ python.at xs j
at_other [] i j v ne = refl
at_other (x ∷ xs) zero zero v ne = absurd (ne refl)
at_other (x ∷ xs) zero (suc j) v ne = refl
at_other (x ∷ xs) (suc i) zero v ne = refl
at_other (x ∷ xs) (suc i) (suc j) v ne = at_other xs i j v (λ e. ne (ap (λ n. suc n) e))

-- two local variables have two temporaries
pub locals_apart : (h : Homes) (i j : ℕ) → j ≢ i → local_at h j ≢ local_at h i
locals_apart h i j ne e =
    let e₁ : local_at h j ≡ local_at h i = e in
    ⊎_elim
    (λ (a : (i < h.params) × (local_at h i ≡ i)). ⊎_elim
    (λ (b : (j < h.params) × (local_at h j ≡ j)). let p = a.1 in let q = b.1 in let k : j ≡ i = omega arith in ne k)
    (λ (b : (h.params ≤ j) × (local_at h j ≡ h.frees + h.owns + j)). let l = a.0 in let m = b.0 in let p = a.1 in let q = b.1 in absurd (omega arith))
    (local_cases h j))
    (λ (a : (h.params ≤ i) × (local_at h i ≡ h.frees + h.owns + i)). ⊎_elim
    (λ (b : (j < h.params) × (local_at h j ≡ j)). let l = a.0 in let m = b.0 in let p = a.1 in let q = b.1 in absurd (omega arith))
    (λ (b : (h.params ≤ j) × (local_at h j ≡ h.frees + h.owns + j)). let p = a.1 in let q = b.1 in let k : j ≡ i = omega arith in ne k)
    (local_cases h j))
    (local_cases h i)

-- and no cell has that of a local variable
cell_apart : (h : Homes) (place p : ℕ) → (h.params ≤ p) × (p < h.params + h.frees + h.owns) → p ≢ local_at h place
cell_apart h place p l e =
    let l₁ = l.0 in
    let l₂ = l.1 in
    let e₁ : p ≡ local_at h place = e in
    ⊎_elim
    (λ (a : (place < h.params) × (local_at h place ≡ place)). let m = a.0 in let q = a.1 in absurd (omega arith))
    (λ (a : (h.params ≤ place) × (local_at h place ≡ h.frees + h.owns + place)). let m = a.0 in let q = a.1 in absurd (omega arith))
    (local_cases h place)

-- a local variable is bound, in both
pub bound_as : (h : Homes) (place : ℕ) (v : Value) (fs : Facts) (f : python.Frame) (g : nodes.Frame) → place < h.filled → Off (local_at h place) fs → FramesAs h fs f g → FramesAs h fs (python.with_local place v f) (nodes.write g (local_at h place) v)
bound_as h place v fs f g l off x =
    let n = x.count in
    let room = x.room.filled in
    let made = x.room.made in
    record {
      room = x.room;
      code = x.code;
      count = length-set f.locals place v ∙ x.count;
      made = x.made;
      rest = λ i le. at_other f.locals place i v (λ e. let e₁ : i ≡ place = e in omega arith) ∙ x.rest i le;
      locals = λ i li. go i li (nat_eq i place) refl;
      owns = λ i li. put_other g.temps (local_at h place) v (own_at h i) (cell_apart h place (own_at h i) (omega arith, omega arith)) ∙ x.owns i li;
      frees = λ i li. put_other g.temps (local_at h place) v (free_at h i) (cell_apart h place (free_at h i) (omega arith, omega arith)) ∙ x.frees i li;
      facts = fits_write (local_at h place) v fs f.carried g off x.facts;
    }
  where
    go : (i : ℕ) → i < h.filled → (b : Bool) → nat_eq i place ≡ b → nodes.put g.temps (local_at h place) v (local_at h i) ≡ Some (python.at (slice_set f.locals place v) i)
    go i li true e =
        let n = x.count in
        let room = x.room.filled in
        let same : i ≡ place = eqb-true i place e in
        subst (λ j. nodes.put g.temps (local_at h place) v (local_at h j) ≡ Some (python.at (slice_set f.locals place v) j)) (sym same)
        (put_same g.temps (local_at h place) v ∙ sym (ap (λ u. Some u) (at_same f.locals place v (omega arith))))
    go i li false e =
        put_other g.temps (local_at h place) v (local_at h i) (locals_apart h place i (eqb-false i place e))
        ∙ x.locals i li ∙ sym (ap (λ u. Some u) (at_other f.locals place i v (eqb-false i place e)))

pub local_bound : (z : Setting) (h : Homes) (tabs : Tables) (place : ℕ) (v : Value) (fs : Facts) (s : S) (t : T) → place < h.filled → Off (local_at h place) fs → Correspond z h tabs fs s t → Correspond z h tabs fs (state_of (python.with_local place v s.frame) s.around) (nodes.writes t (local_at h place) v)
local_bound z h tabs place v fs s t l off x = record { frames = bound_as h place v fs s.frame t.frame l off x.frames; around = x.around }
