-- What is known stays known where other temporaries are written.
use Rattle.std.proofs.Common.{◌≡◌, ◌≢◌, ◌⊎◌, ⊎_elim, inl, inr, ℕ, ◌+◌, ◌<◌, ◌≤◌, Bool, true, false, if◌then◌else◌, nat_eq, nat_lt, [], ◌∷◌, Option, Some, refl, ap, ◌∙◌, arith}
use Rattle.std.proofs.lemmas.Bool.{eq-eqb, eqb-true, ltb-true, ltb-false}
use Rattle.nu_value.specs.declared.value.Value.{Value}
use Rattle.code_forms.specs.declared.operand.Operand.{Operand}
use Rattle.code_forms.specs.declared.operand.Operand.TheVariants as operand
use Rattle.node_tree.specs.Nodes as nodes
use Rattle.py_meaning.specs.Frames as python
use Rattle.carries_base.specs.Frames.{Homes, HaveRoom, local_at, free_at, own_at, behind, Fact, Holds, Alike, Keeps, Never, Facts, Fits, FramesAs, IsWithin, IsOff, Outside}
use Rattle.carries_base.specs.Carries.{Setting, S, T, Tables, Correspond}

pub put_same : (f : ℕ → Option Value) (d : ℕ) (v : Value) → nodes.put f d v d ≡ Some v
put_same f d v = ap (λ b. if b then Some v else f d) (eq-eqb d d refl)

pub put_other : (f : ℕ → Option Value) (d : ℕ) (v : Value) (x : ℕ) → x ≢ d → nodes.put f d v x ≡ f x
put_other f d v x ne = go (nat_eq x d) refl
  where
    go : (b : Bool) → nat_eq x d ≡ b → (if nat_eq x d then Some v else f x) ≡ f x
    go true e = absurd (ne (eqb-true x d e))
    go false e = ap (λ b. if b then Some v else f x) e

-- no fact speaks of this temporary
abbrev pub Off : ℕ → Facts → Type 0
Off d [] = Unit {0}
Off d (Holds (operand.Temp a) v ∷ fs) = (a ≢ d) × Off d fs
Off d (Holds (operand.Const c) v ∷ fs) = Off d fs
Off d (Alike v w ∷ fs) = Off d fs
Off d (Keeps a ∷ fs) = (a ≢ d) × Off d fs
Off d (Never ∷ fs) = Off d fs

pub fits_write : (d : ℕ) (v : Value) (fs : Facts) (c : Value) (g : nodes.Frame) → Off d fs → Fits fs c g → Fits fs c (nodes.write g d v)
fits_write d v [] c g off x = tt
fits_write d v (Holds (operand.Temp a) w ∷ fs) c g off x = (put_other g.temps d v a off.0 ∙ x.0, fits_write d v fs c g off.1 x.1)
fits_write d v (Holds (operand.Const a) w ∷ fs) c g off x = (x.0, fits_write d v fs c g off x.1)
fits_write d v (Alike a w ∷ fs) c g off x = (x.0, fits_write d v fs c g off x.1)
fits_write d v (Keeps a ∷ fs) c g off x = (put_other g.temps d v a off.0 ∙ x.0, fits_write d v fs c g off.1 x.1)
fits_write d v (Never ∷ fs) c g off x = x

pub outside_off : (h : Homes) (low high d : ℕ) (fs : Facts) → low ≤ d → d < high → Outside h low high fs → Off d fs
outside_off h low high d [] l₁ l₂ x = tt
outside_off h low high d (Holds (operand.Temp a) v ∷ fs) l₁ l₂ x =
    (λ e. let e₁ : a ≡ d = e in ⊎_elim (λ (q : a < low). omega arith) (λ (q : high ≤ a). omega arith) x.0.1, outside_off h low high d fs l₁ l₂ x.1)
outside_off h low high d (Holds (operand.Const c) v ∷ fs) l₁ l₂ x = outside_off h low high d fs l₁ l₂ x.1
outside_off h low high d (Alike v w ∷ fs) l₁ l₂ x = outside_off h low high d fs l₁ l₂ x
outside_off h low high d (Keeps a ∷ fs) l₁ l₂ x = absurd x
outside_off h low high d (Never ∷ fs) l₁ l₂ x = outside_off h low high d fs l₁ l₂ x

-- of no home of a name
pub outside_home : (h : Homes) (low high d : ℕ) (fs : Facts) → d < behind h → Outside h low high fs → Off d fs
outside_home h low high d [] l x = tt
outside_home h low high d (Holds (operand.Temp a) v ∷ fs) l x =
    (λ e. let e₁ : a ≡ d = e in let le : behind h ≤ a = x.0.0 in omega arith, outside_home h low high d fs l x.1)
outside_home h low high d (Holds (operand.Const c) v ∷ fs) l x = outside_home h low high d fs l x.1
outside_home h low high d (Alike v w ∷ fs) l x = outside_home h low high d fs l x
outside_home h low high d (Keeps a ∷ fs) l x = absurd x
outside_home h low high d (Never ∷ fs) l x = outside_home h low high d fs l x

pub outside_less : (h : Homes) (low high low' high' : ℕ) (fs : Facts) → low ≤ low' → high' ≤ high → Outside h low high fs → Outside h low' high' fs
outside_less h low high low' high' [] l₁ l₂ x = tt
outside_less h low high low' high' (Holds (operand.Temp a) v ∷ fs) l₁ l₂ x =
    ((x.0.0, ⊎_elim (λ (q : a < low). let r : a < low' = omega arith in inl r) (λ (q : high ≤ a). let r : high' ≤ a = omega arith in inr r) x.0.1), outside_less h low high low' high' fs l₁ l₂ x.1)
outside_less h low high low' high' (Holds (operand.Const c) v ∷ fs) l₁ l₂ x = (x.0, outside_less h low high low' high' fs l₁ l₂ x.1)
outside_less h low high low' high' (Alike v w ∷ fs) l₁ l₂ x = outside_less h low high low' high' fs l₁ l₂ x
outside_less h low high low' high' (Keeps a ∷ fs) l₁ l₂ x = absurd x
outside_less h low high low' high' (Never ∷ fs) l₁ l₂ x = outside_less h low high low' high' fs l₁ l₂ x

-- a value of one range lies outside of the next, and of one before
pub within_below : (h : Homes) (low mid high : ℕ) (o : Operand) → behind h ≤ low → IsWithin low mid o → IsOff h mid high o
within_below h low mid high (operand.Temp t) l x = let l₁ = x.0 in (omega arith, inl x.1)
within_below h low mid high (operand.Const c) l x = tt

-- the temporaries of names stand in front of all others
pub local_cases : (h : Homes) (place : ℕ) → ((place < h.params) × (local_at h place ≡ place)) ⊎ ((h.params ≤ place) × (local_at h place ≡ h.frees + h.owns + place))
local_cases h place = go (nat_lt place h.params) refl
  where
    go : (b : Bool) → nat_lt place h.params ≡ b → ((place < h.params) × (local_at h place ≡ place)) ⊎ ((h.params ≤ place) × (local_at h place ≡ h.frees + h.owns + place))
    go true e = inl (ltb-true place h.params e, ap (λ b. if b then place else h.frees + h.owns + place) e)
    go false e = inr (ltb-false place h.params e, ap (λ b. if b then place else h.frees + h.owns + place) e)

pub local_below : (h : Homes) (place : ℕ) → HaveRoom h → place < h.locals → local_at h place < behind h
local_below h place room l =
    let r = room.params in
    ⊎_elim
    (λ (q : (place < h.params) × (local_at h place ≡ place)). let a = q.0 in let b = q.1 in omega arith)
    (λ (q : (h.params ≤ place) × (local_at h place ≡ h.frees + h.owns + place)). let a = q.0 in let b = q.1 in omega arith)
    (local_cases h place)

-- a temporary that is no home is written
pub write_as : (h : Homes) (d : ℕ) (v : Value) (fs gs : Facts) (f : python.Frame) (g : nodes.Frame) → behind h ≤ d → Fits gs f.carried (nodes.write g d v) → FramesAs h fs f g → FramesAs h gs f (nodes.write g d v)
write_as h d v fs gs f g le facts x = record {
  room = x.room;
  code = x.code;
  count = x.count;
  made = x.made;
  rest = x.rest;
  locals = λ place l. let r = x.room.filled in let b : local_at h place < behind h = local_below h place x.room (omega arith) in put_other g.temps d v (local_at h place) (λ e. let e₁ : local_at h place ≡ d = e in omega arith) ∙ x.locals place l;
  owns = λ place l. let r = x.room.made in let r₂ = x.room.params in put_other g.temps d v (own_at h place) (λ e. let e₁ : own_at h place ≡ d = e in omega arith) ∙ x.owns place l;
  frees = λ place l. let r₂ = x.room.params in put_other g.temps d v (free_at h place) (λ e. let e₁ : free_at h place ≡ d = e in omega arith) ∙ x.frees place l;
  facts = facts;
}

module _ (z : Setting) (h : Homes) (tabs : Tables) where
  pub refit : (fs gs : Facts) (s : S) (t : T) → (Fits fs s.frame.carried t.frame → Fits gs s.frame.carried t.frame) → Correspond z h tabs fs s t → Correspond z h tabs gs s t
  refit fs gs s t f x = record {
    frames = record { room = x.frames.room; code = x.frames.code; count = x.frames.count; made = x.frames.made; rest = x.frames.rest; locals = x.frames.locals; owns = x.frames.owns; frees = x.frames.frees; facts = f x.frames.facts };
    around = x.around;
  }

  pub written : (fs : Facts) (d : ℕ) (v : Value) (s : S) (t : T) → behind h ≤ d → Off d fs → Correspond z h tabs fs s t → Correspond z h tabs fs s (nodes.writes t d v)
  written fs d v s t le off x = record {
    frames = write_as h d v fs fs s.frame t.frame le (fits_write d v fs s.frame.carried t.frame off x.frames.facts) x.frames;
    around = x.around;
  }

  -- and its value is known
  pub fresh : (fs : Facts) (d : ℕ) (v w : Value) (s : S) (t : T) → w ≡ v → behind h ≤ d → Off d fs → Correspond z h tabs fs s t → Correspond z h tabs (Holds (operand.Temp d) v ∷ fs) s (nodes.writes t d w)
  fresh fs d v w s t e le off x = record {
    frames = write_as h d w fs (Holds (operand.Temp d) v ∷ fs) s.frame t.frame le (put_same t.frame.temps d w ∙ ap (λ u. Some u) e, fits_write d w fs s.frame.carried t.frame off x.frames.facts) x.frames;
    around = x.around;
  }

-- the first fact is forgotten
pub forget : (f : Fact) (fs : Facts) (c : Value) (g : nodes.Frame) → Fits (f ∷ fs) c g → Fits fs c g
forget (Holds o v) fs c g x = x.1
forget (Alike v w) fs c g x = x.1
forget (Keeps t) fs c g x = x.1
forget Never fs c g x = absurd x
