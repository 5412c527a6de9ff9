-- Temporaries are given to local variables and cells, one after another, as a code begins.
use Rattle.std.proofs.Common.{◌≡◌, ◌≢◌, ◌⊎◌, ⊎_elim, inl, inr, ℕ, zero, suc, ◌+◌, ◌<◌, ◌≤◌, Bool, true, false, nat_eq, length, List, [], ◌∷◌, ◌++◌, Some, refl, sym, ap, ◌∙◌, subst, arith, length-append}
use Rattle.std.proofs.lemmas.Bool.{eqb-true, eqb-false}
use Rattle.nu_value.specs.declared.value.Value.{Value}
use Rattle.nu_value.specs.declared.value.Value.TheVariants as value
use Rattle.code_forms.specs.declared.operand.Operand.TheVariants as operand
use Rattle.node_tree.specs.Nodes as nodes
use Rattle.py_meaning.specs.Frames as python
use Rattle.carries_base.specs.Frames.{Homes, local_at, own_at, free_at, Holds, FramesAs}
use Rattle.carries_base.proofs.Facts.{put_same, local_cases}
use Rattle.carries_base.proofs.Homes.{locals_apart}
use Rattle.carries_names.proofs.Made.{IsFree, free_written}

-- so many local variables and cells have their temporaries
abbrev pub at_stage : Homes → ℕ → ℕ → Homes
at_stage h filled made = record h { filled = filled; made = made }

-- the temporaries of cells stand between those of parameters and those of other local variables
pub local_sides : (h : Homes) (place : ℕ) → (local_at h place < h.params) ⊎ (h.params + h.frees + h.owns ≤ local_at h place)
local_sides h place = ⊎_elim
    (λ (q : (place < h.params) × (local_at h place ≡ place)). let a = q.0 in let b = q.1 in inl (omega arith))
    (λ (q : (h.params ≤ place) × (local_at h place ≡ h.frees + h.owns + place)). let a = q.0 in let b = q.1 in inr (omega arith))
    (local_cases h place)

cell_sides : (h : Homes) (place p : ℕ) → h.params ≤ p → p < h.params + h.frees + h.owns → p ≢ local_at h place
cell_sides h place p l₁ l₂ e =
    let e₁ : p ≡ local_at h place = e in
    ⊎_elim (λ (q : local_at h place < h.params). omega arith) (λ (q : h.params + h.frees + h.owns ≤ local_at h place). omega arith) (local_sides h place)

local_free : (h : Homes) (place made : ℕ) → made ≤ h.owns → IsFree (at_stage h place made) (local_at h place)
local_free h place made le = record {
  locals = λ i l. locals_apart h place i (λ e. let e₁ : i ≡ place = e in omega arith);
  owns = λ i l. cell_sides h place (own_at h i) (omega arith) (omega arith);
  frees = λ i l. cell_sides h place (free_at h i) (omega arith) (omega arith);
}

pub cell_free : (h : Homes) (filled place : ℕ) → place < h.owns → IsFree (at_stage h filled place) (own_at h place)
cell_free h filled place l = record {
  locals = λ i li e. cell_sides h i (own_at h place) (omega arith) (omega arith) (sym e);
  owns = λ i li e. let e₁ : own_at h i ≡ own_at h place = e in omega arith;
  frees = λ i li e. let e₁ : free_at h i ≡ own_at h place = e in omega arith;
}

-- a local variable, which is Unset yet, gets its temporary
pub unset_filled : (h : Homes) (place : ℕ) (f : python.Frame) (g : nodes.Frame) → place < h.locals → FramesAs (at_stage h place 0) [] f g → FramesAs (at_stage h (place + 1) 0) [] f (nodes.write g (local_at h place) value.Unset)
unset_filled h place f g l x =
    let kept : FramesAs (at_stage h place 0) [] f (nodes.write g (local_at h place) value.Unset) = free_written (at_stage h place 0) (local_at h place) value.Unset [] [] f g (local_free h place 0 (omega arith)) tt x in
    record {
      room = record { params = x.room.params; filled = omega arith; made = x.room.made };
      code = x.code;
      count = x.count;
      made = x.made;
      rest = λ i le. x.rest i (omega arith);
      locals = λ i li. go kept i li (nat_eq i place) refl;
      owns = kept.owns;
      frees = kept.frees;
      facts = tt;
    }
  where
    go : FramesAs (at_stage h place 0) [] f (nodes.write g (local_at h place) value.Unset) → (i : ℕ) → i < place + 1 → (b : Bool) → nat_eq i place ≡ b → nodes.put g.temps (local_at h place) value.Unset (local_at h i) ≡ Some (python.at f.locals i)
    go kept i li true e =
        subst (λ j. nodes.put g.temps (local_at h place) value.Unset (local_at h j) ≡ Some (python.at f.locals j)) (sym (eqb-true i place e))
        (put_same g.temps (local_at h place) value.Unset ∙ sym (ap (λ u. Some u) (x.rest place (omega arith))))
    go kept i li false e = let ne : i ≢ place = eqb-false i place e in kept.locals i (omega arith)

at_last : (xs : List Value) (v : Value) → python.at (xs ++ v ∷ []) (length xs) ≡ v
at_last [] v = refl
at_last (x ∷ xs) v = at_last xs v

pub at_before : (xs ys : List Value) (i : ℕ) → i < length xs → python.at (xs ++ ys) i ≡ python.at xs i
at_before [] ys i l = absurd (omega arith)
at_before (x ∷ xs) ys zero l = refl
at_before (x ∷ xs) ys (suc i) l = at_before xs ys i (omega arith)

-- a cell whose temporary holds it is one of the frame
pub cell_made : (h : Homes) (filled place : ℕ) (c : Value) (f : python.Frame) (g : nodes.Frame) → place < h.owns → FramesAs (at_stage h filled place) (Holds (operand.Temp (own_at h place)) c ∷ []) f g → FramesAs (at_stage h filled (place + 1)) (Holds (operand.Temp (own_at h place)) c ∷ []) (python.with_own c f) g
cell_made h filled place c f g l x =
    let made : length f.owns ≡ place = x.made in
    let more : length (f.owns ++ c ∷ []) ≡ length f.owns + 1 = length-append f.owns (c ∷ []) in
    record {
      room = record { params = x.room.params; filled = x.room.filled; made = omega arith };
      code = x.code;
      count = x.count;
      made = omega arith;
      rest = x.rest;
      locals = x.locals;
      owns = λ i li. go i li (nat_eq i place) refl;
      frees = x.frees;
      facts = x.facts;
    }
  where
    go : (i : ℕ) → i < place + 1 → (b : Bool) → nat_eq i place ≡ b → g.temps (own_at h i) ≡ Some (python.at (f.owns ++ c ∷ []) i)
    go i li true e =
        subst (λ j. g.temps (own_at h j) ≡ Some (python.at (f.owns ++ c ∷ []) j)) (sym (eqb-true i place e))
        (x.facts.0 ∙ sym (ap (λ u. Some u) (subst (λ j. python.at (f.owns ++ c ∷ []) j ≡ c) x.made (at_last f.owns c))))
    go i li false e =
        let made : length f.owns ≡ place = x.made in
        let ne : i ≢ place = eqb-false i place e in
        x.owns i (omega arith) ∙ sym (ap (λ u. Some u) (at_before f.owns (c ∷ []) i (omega arith)))
