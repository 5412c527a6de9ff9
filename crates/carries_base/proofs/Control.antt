-- Carrying with branches, loops, handlers, and ends that both sides have in different ways.
use Rattle.std.proofs.Common.{◌≡◌, ℕ, ◌≤◌, Bool, true, false, List, ◌∷◌, Some, refl, sym, ap, ◌∙◌, subst}
use Rattle.nu_value.specs.declared.value.Value.{Value}
use Rattle.nu_value.specs.declared.value.Value.TheVariants as value
use Rattle.nu_rows.specs.Rows.{End, Next, Leave, Raised, Return, Stopped, Undefined, Res, Spent, Paused, Ended, Then, Loop, turned}
use Rattle.nu_rows.specs.Words.{ends_with, on_next, on_raised, choose}
use Rattle.nu_run.proofs.Runs.{prefix_trans}
use Rattle.nu_rows.specs.Sim.{printed, Places, Ends, Below, other_places, other_ends}
use Rattle.nu_rows.proofs.Grow.{turned_printed}
use Rattle.code_forms.specs.declared.operand.Operand.{Operand}
use Rattle.code_forms.specs.declared.operand.Operand.TheVariants as operand
use Rattle.node_tree.specs.Blocks as tree
use Rattle.node_tree.specs.Nodes as nodes
use Rattle.py_meaning.specs.Frames as python
use Rattle.carries_base.specs.Frames.{Homes, behind, Holds, Facts}
use Rattle.carries_base.specs.Carries.{Setting, target, S, T, Tables, Correspond, At, EndsAs, CarriedBy, CarriedTo}
use Rattle.carries_base.specs.Turns.{loop_end}
use Rattle.carries_base.proofs.Turns.{by, turned_is}
use Rattle.carries_base.proofs.Facts.{Off, fresh}
use Rattle.carries_base.proofs.Carry.{States, AllEnds, Settles, none_by, act_by, then_by, tidy_by, right_by}
use Rattle.carries_base.proofs.Sequence.{read_by}

-- A loop on the right alone, that runs once

module _ {S T : Type 0} (P : Places S T) (R Q : Ends S T) (done : (e : End) (s : S) (e' : End) (t : T) → R e s e' t → (x : End) × (loop_end e' ≡ Some x) × Q e s x t) where
  once_is : (o : List ℕ) (t : T) (e' x : End) (g : T → Res T) → loop_end e' ≡ Some x → turned (Ended o t e') g ≡ Ended o t x
  once_is o t e' x g e = turned_is o t e' g ∙ ap (λ u. by o t u g) e

  once_there : (r : Res S) (c : Res T) (g : T → Res T) → Below P R r c → Below P Q r (turned c g)
  once_there (Spent o) c g h = prefix_trans o (printed c) _ h (turned_printed c g)
  once_there (Paused o s v p) (Spent o') g h = absurd h
  once_there (Paused o s v p) (Paused o' t w q) g h = h
  once_there (Paused o s v p) (Ended o' t e') g h = absurd h
  once_there (Ended o s e) (Spent o') g h = absurd h
  once_there (Ended o s e) (Paused o' t w q) g h = absurd h
  once_there (Ended o s e) (Ended o' t e') g h =
      let d = done e s e' t h.1 in subst (λ u. Below P Q (Ended o s e) u) (sym (once_is o' t e' d.0 g d.1)) (h.0, d.2)

  once_back : (r : Res S) (c : Res T) (g : T → Res T) → Below (other_places P) (other_ends R) c r → Below (other_places P) (other_ends Q) (turned c g) r
  once_back r (Spent o) g h = h
  once_back (Spent o') (Paused o t w q) g h = absurd h
  once_back (Paused o' s v p) (Paused o t w q) g h = h
  once_back (Ended o' s e) (Paused o t w q) g h = absurd h
  once_back (Spent o') (Ended o t e') g h = absurd h
  once_back (Paused o' s v p) (Ended o t e') g h = absurd h
  once_back (Ended o' s e) (Ended o t e') g h =
      let d = done e s e' t h.1 in subst (λ u. Below (other_places P) (other_ends Q) u (Ended o' s e)) (sym (once_is o t e' d.0 g d.1)) (h.0, d.2)

module _ (z : Setting) (h : Homes) where
  -- each end of the right side ends its loop
  abbrev pub EndsLoop : AllEnds → AllEnds → Type 0
  EndsLoop R Q = (tabs : Tables) (e : End) (s : S) (e' : End) (t : T) → R tabs e s e' t → (x : End) × (loop_end e' ≡ Some x) × Q tabs e s x t

  pub once_by : (Pre : States) (R Q : AllEnds) (r : python.R) (b : tree.Block) → EndsLoop R Q → CarriedBy z h Pre R r (nodes.block_row (target z) b) → CarriedBy z h Pre Q r (Loop (nodes.block_row (target z) b) (nodes.OfLoop b))
  once_by Pre R Q r b done x = record {
    places = x.places;
    sim = λ tabs L agree. record {
      begins = λ s t pre. let m = (x.sim tabs L agree).begins s t pre in record {
        there = λ n le. let a = m.there n le in (a.0, once_there (At z h tabs x.places) (R tabs) (Q tabs) (done tabs) _ _ _ a.1);
        back = λ n le. let a = m.back n le in (a.0, once_back (At z h tabs x.places) (R tabs) (Q tabs) (done tabs) _ _ _ a.1);
      };
      goes_on = λ p q how s t y. let m = (x.sim tabs L agree).goes_on p q how s t y in record {
        there = λ n le. let a = m.there n le in (a.0, once_there (At z h tabs x.places) (R tabs) (Q tabs) (done tabs) _ _ _ a.1);
        back = λ n le. let a = m.back n le in (a.0, once_back (At z h tabs x.places) (R tabs) (Q tabs) (done tabs) _ _ _ a.1);
      };
    };
  }

  -- Branches

  undefined_done : (Pre : States) (Q : AllEnds) (D : Value → nodes.R) → ((tabs : Tables) (s : S) (t : T) → Pre tabs s t → Q tabs Undefined s Undefined t) → Settles z h (λ tabs e s e' t. (e ≡ Undefined) × (e' ≡ Undefined) × Pre tabs s t) Q (on_next D)
  undefined_done Pre Q D u tabs e s Undefined t x = (Undefined, t, record { bound = 0; by = refl }, subst (λ y. Q tabs y s Undefined t) (sym x.0) (u tabs s t x.2))
  undefined_done Pre Q D u tabs e s (Next v) t x = let y : Next v ≡ Undefined = x.1 in cc
  undefined_done Pre Q D u tabs e s (Leave v) t x = let y : Leave v ≡ Undefined = x.1 in cc
  undefined_done Pre Q D u tabs e s (Raised v) t x = let y : Raised v ≡ Undefined = x.1 in cc
  undefined_done Pre Q D u tabs e s (Return v) t x = let y : Return v ≡ Undefined = x.1 in cc
  undefined_done Pre Q D u tabs e s (Stopped v) t x = let y : Stopped v ≡ Undefined = x.1 in cc

  -- a branch on an operand that is known
  pub branch_by : (Pre : States) (Q : AllEnds) (a : Operand) (v : Value) (r₁ r₂ : python.R) (y n : tree.Block) → ((tabs : Tables) (s : S) (t : T) → Pre tabs s t → nodes.operand_value t.frame a ≡ Some v) → ((tabs : Tables) (s : S) (t : T) → Pre tabs s t → Q tabs Undefined s Undefined t) → CarriedBy z h Pre Q r₁ (nodes.block_row (target z) y) → CarriedBy z h Pre Q r₂ (nodes.block_row (target z) n) → CarriedBy z h Pre Q (choose v r₁ r₂) (nodes.form_row (target z) (tree.If a y n))
  branch_by Pre Q a (value.Bool true) r₁ r₂ y n known u hy hn = read_by z h 0 Pre Q a (value.Bool true) r₁ (λ w. choose w (nodes.block_row (target z) y) (nodes.block_row (target z) n)) refl known hy
  branch_by Pre Q a (value.Bool false) r₁ r₂ y n known u hy hn = read_by z h 0 Pre Q a (value.Bool false) r₂ (λ w. choose w (nodes.block_row (target z) y) (nodes.block_row (target z) n)) refl known hn
  branch_by Pre Q a value.None r₁ r₂ y n known u hy hn = read_by z h 0 Pre Q a value.None _ (λ w. choose w (nodes.block_row (target z) y) (nodes.block_row (target z) n)) refl known (act_by z h Pre Q _ _ (λ tabs s t p. (refl, u tabs s t p)))
  branch_by Pre Q a (value.Int i) r₁ r₂ y n known u hy hn = read_by z h 0 Pre Q a (value.Int i) _ (λ w. choose w (nodes.block_row (target z) y) (nodes.block_row (target z) n)) refl known (act_by z h Pre Q _ _ (λ tabs s t p. (refl, u tabs s t p)))
  branch_by Pre Q a (value.Str i) r₁ r₂ y n known u hy hn = read_by z h 0 Pre Q a (value.Str i) _ (λ w. choose w (nodes.block_row (target z) y) (nodes.block_row (target z) n)) refl known (act_by z h Pre Q _ _ (λ tabs s t p. (refl, u tabs s t p)))
  branch_by Pre Q a (value.Obj i) r₁ r₂ y n known u hy hn = read_by z h 0 Pre Q a (value.Obj i) _ (λ w. choose w (nodes.block_row (target z) y) (nodes.block_row (target z) n)) refl known (act_by z h Pre Q _ _ (λ tabs s t p. (refl, u tabs s t p)))
  branch_by Pre Q a value.Unset r₁ r₂ y n known u hy hn =
      tidy_by z h Pre (λ tabs e s e' t. (e ≡ Undefined) × (e' ≡ Undefined) × Pre tabs s t) Q _ _ _ (undefined_done Pre Q (λ w. choose w (nodes.block_row (target z) y) (nodes.block_row (target z) n)) u)
      (act_by z h Pre _ _ _ (λ tabs s t p. (refl, (refl, ap nodes.used (known tabs s t p), p))))

  -- a branch that the nodes alone take, on a truth that is known
  pub flagged_by : (Pre : States) (Q : AllEnds) (a : Operand) (b : Bool) (r : python.R) (y n : tree.Block) → ((tabs : Tables) (s : S) (t : T) → Pre tabs s t → nodes.operand_value t.frame a ≡ Some (value.Bool b)) → CarriedBy z h Pre Q r (choose (value.Bool b) (nodes.block_row (target z) y) (nodes.block_row (target z) n)) → CarriedBy z h Pre Q r (nodes.form_row (target z) (tree.If a y n))
  flagged_by Pre Q a b r y n known x = read_by z h 0 Pre Q a (value.Bool b) r (λ w. choose w (nodes.block_row (target z) y) (nodes.block_row (target z) n)) refl known x

  -- the value of an operand that is known is returned
  pub return_by : (Pre : States) (Q : AllEnds) (a : Operand) (v : Value) → ((tabs : Tables) (s : S) (t : T) → Pre tabs s t → nodes.operand_value t.frame a ≡ Some v) → ((tabs : Tables) (s : S) (t : T) → Pre tabs s t → Q tabs (Return v) s (Return v) t) → CarriedBy z h Pre Q (ends_with (Return v)) (nodes.form_row (target z) (tree.Return a))
  return_by Pre Q a v known done = act_by z h Pre Q _ _ (λ tabs s t x. (refl, subst (λ o. Q tabs (Return v) s (nodes.given o) t) (sym (known tabs s t x)) (done tabs s t x)))

  -- Statements of the nodes alone

  -- a temporary is written first
  pub writes_first : (fs : Facts) (Q : AllEnds) (d : ℕ) (v : Value) (r : python.R) (b : nodes.R) → behind h ≤ d → Off d fs → CarriedTo z h Q (Holds (operand.Temp d) v ∷ fs) r b → CarriedTo z h Q fs r (nodes.followed (nodes.write_row d v) b)
  writes_first fs Q d v r b le off x = right_by z h _ (λ w tabs. Correspond z h tabs (Holds (operand.Temp d) v ∷ fs)) Q r _ (λ w. b) (λ tabs s t y. (refl, fresh z h tabs fs d v v s t refl le off y)) (λ w. x)

  -- Handlers

  -- the exception of a guarded block goes to a temporary. `R` has the ends of the block, `m` what is known at an exception; what follows
  -- each pair of other ends is that end on the right
  handled_next : (R Q : AllEnds) (m : Facts) (d : ℕ) (hd : tree.Block) (K : End → python.R) → behind h ≤ d → Off d m → ((tabs : Tables) (x : ℕ) (s : S) (y : ℕ) (t : T) → R tabs (Raised x) s (Raised y) t → (x ≡ y) × Correspond z h tabs m s t) → ((x : ℕ) → CarriedTo z h Q (Holds (operand.Temp d) (value.Obj x) ∷ m) (K (Raised x)) (nodes.block_row (target z) hd)) → (x y : ℕ) → CarriedBy z h (λ tabs s t. R tabs (Raised x) s (Raised y) t) Q (K (Raised x)) (nodes.handled d (nodes.block_row (target z) hd) y)
  handled_next R Q m d hd K le off raised handler x y =
      right_by z h _ (λ w tabs. Correspond z h tabs (Holds (operand.Temp d) (value.Obj x) ∷ m)) Q _ _ (λ w. nodes.block_row (target z) hd)
      (λ tabs s t p. let q = raised tabs x s y t p in (refl, fresh z h tabs m d (value.Obj x) (value.Obj y) s t (ap (λ u. value.Obj u) (sym q.0)) le off q.1))
      (λ w. handler x)

  pub catch_by : (n : ℕ) (Pre : States) (k : Value → Facts) (fs : Facts) (Q : AllEnds) (r : python.R) (K : End → python.R) (d : ℕ) (b hd : tree.Block) → behind h ≤ d → Off d fs → CarriedBy z h Pre (EndsAs z h n k fs) r (nodes.block_row (target z) b) → ((x : ℕ) → CarriedTo z h Q (Holds (operand.Temp d) (value.Obj x) ∷ fs) (K (Raised x)) (nodes.block_row (target z) hd)) → ((v w : Value) → CarriedTo z h Q (k v) (K (Next v)) (ends_with (Next w))) → ((i j : ℕ) → CarriedBy z h (λ tabs s t. EndsAs z h n k fs tabs (Leave i) s (Leave j) t) Q (K (Leave i)) (ends_with (Leave j))) → ((v w : Value) → CarriedBy z h (λ tabs s t. EndsAs z h n k fs tabs (Return v) s (Return w) t) Q (K (Return v)) (ends_with (Return w))) → ((i j : _) → CarriedBy z h (λ tabs s t. EndsAs z h n k fs tabs (Stopped i) s (Stopped j) t) Q (K (Stopped i)) (ends_with (Stopped j))) → CarriedBy z h (λ tabs s t. Unit {0}) Q (K Undefined) (ends_with Undefined) → CarriedBy z h Pre Q (Then r K) (nodes.form_row (target z) (tree.Catch d b hd))
  catch_by n Pre k fs Q r K d b hd le off x raised next leave return stopped undefined = then_by z h Pre (EndsAs z h n k fs) Q r _ K _ x go
    where
      go : (e e' : End) → CarriedBy z h (λ tabs s t. EndsAs z h n k fs tabs e s e' t) Q (K e) (on_raised (nodes.handled d (nodes.block_row (target z) hd)) e')
      go (Raised x) (Raised y) = handled_next (EndsAs z h n k fs) Q fs d hd K le off (λ tabs x s y t p. p) raised x y
      go (Next v) (Next w) = next v w
      go (Leave i) (Leave j) = leave i j
      go (Return v) (Return w) = return v w
      go (Stopped i) (Stopped j) = stopped i j
      go Undefined Undefined = undefined
      go e e' = none_by z h _ Q _ _ (λ tabs s t x. x)
