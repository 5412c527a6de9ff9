-- Every end of a block is kept, and what follows each.
use Rattle.std.proofs.Common.{◌≡◌, ℕ, zero, suc, ◌+◌, ◌<◌, ◌≤◌, Bool, true, false, ◌∷◌, refl, sym, ap, subst, arith}
use Rattle.nu_value.specs.declared.value.Value.{Value}
use Rattle.nu_value.specs.declared.value.Value.TheVariants as value
use Rattle.nu_rows.specs.Rows.{End, Next, Leave, Raised, Return, Stopped, Undefined, Start, Begin, Back, Res, Spent, Paused, Ended, Then, does}
use Rattle.nu_rows.specs.Words.{ends_with, on_next, on_raised}
use Rattle.nu_rows.specs.Sim.{Places, Below, other_places, other_ends, Both}
use Rattle.code_forms.specs.declared.operand.Operand.TheVariants as operand
use Rattle.node_tree.specs.Blocks.{alone, flag}
use Rattle.node_tree.specs.Blocks as tree
use Rattle.node_tree.specs.Nodes as nodes
use Rattle.node_tree.specs.Tree.{code_block}
use Rattle.py_meaning.specs.Frames as python
use Rattle.carries_base.specs.Frames.{Homes, behind, Fact, Holds, Facts}
use Rattle.carries_base.specs.Carries.{Setting, target, rows, columns, S, T, Tables, Correspond, At, EndsAs, CarriedBy, CarriedTo}
use Rattle.carries_base.proofs.Facts.{Off, fresh}
use Rattle.carries_base.proofs.Carry.{States, AllEnds, Settles, by_map, none_by, act_by, then_by, tidy_by}
use Rattle.carries_base.proofs.Control.{EndsLoop, once_by}
use Rattle.node_redirect.specs.Redirect.{is_further}
use Rattle.carries_control.specs.Finish.{guarded_block, guarded}
use Rattle.node_redirect.specs.Shown.{shown_end, shown_state, shown, Redirected}
use Rattle.node_redirect.proofs.Redirected.{block_same}

-- what carries a row, rewritten: the places stay, the ends are as they show
module _ (z : Setting) (h : Homes) (k d : ℕ) (Q R : AllEnds) (done : (tabs : Tables) (e : End) (s : S) (e' : End) (t : T) → Q tabs e s e' t → R tabs e s (shown_end d e') (shown_state k d e' t)) where
  below_shown : (tabs : Tables) (P : Places S T) (a : Res S) (c : Res T) → Below P (Q tabs) a c → Below P (R tabs) a (shown k d c)
  below_shown tabs P (Spent o) (Spent o') x = x
  below_shown tabs P (Spent o) (Paused o' t u q) x = x
  below_shown tabs P (Spent o) (Ended o' t e') x = x
  below_shown tabs P (Paused o s v p) (Spent o') x = absurd x
  below_shown tabs P (Paused o s v p) (Paused o' t u q) x = x
  below_shown tabs P (Paused o s v p) (Ended o' t e') x = absurd x
  below_shown tabs P (Ended o s e) (Spent o') x = absurd x
  below_shown tabs P (Ended o s e) (Paused o' t u q) x = absurd x
  below_shown tabs P (Ended o s e) (Ended o' t e') x = (x.0, done tabs e s e' t x.1)

  shown_below : (tabs : Tables) (P : Places S T) (c : Res T) (a : Res S) → Below (other_places P) (other_ends (Q tabs)) c a → Below (other_places P) (other_ends (R tabs)) (shown k d c) a
  shown_below tabs P (Spent o') a x = x
  shown_below tabs P (Paused o' t u q) (Spent o) x = absurd x
  shown_below tabs P (Paused o' t u q) (Paused o s v p) x = x
  shown_below tabs P (Paused o' t u q) (Ended o s e) x = absurd x
  shown_below tabs P (Ended o' t e') (Spent o) x = absurd x
  shown_below tabs P (Ended o' t e') (Paused o s v p) x = absurd x
  shown_below tabs P (Ended o' t e') (Ended o s e) x = (x.0, done tabs e s e' t x.1)

  pub redirected_by : (Pre : States) (r : python.R) (c new : nodes.R) → Redirected (target z) (code_block z.script.codes) k d c new → CarriedBy z h Pre Q r c → CarriedBy z h Pre R r new
  redirected_by Pre r c new red x = record {
    places = x.places;
    sim = λ tabs L agree. record {
      begins = λ s t pre. both tabs L Begin Begin s t ((x.sim tabs L agree).begins s t pre);
      goes_on = λ p q how s t y. both tabs L (Back p how) (Back q how) s t ((x.sim tabs L agree).goes_on p q how s t y);
    };
  }
    where
      both : (tabs : Tables) (L : ℕ) (from to : Start) (s : S) (t : T) → Both L (At z h tabs x.places) (Q tabs) (does (rows z) r from s) (does (columns z) c to t) → Both L (At z h tabs x.places) (R tabs) (does (rows z) r from s) (does (columns z) new to t)
      both tabs L from to s t b = record {
        there = λ n le. let a = b.there n le in (a.0, subst (λ u. Below (At z h tabs x.places) (R tabs) (does (rows z) r from s n) u) (red.same to t a.0) (below_shown tabs (At z h tabs x.places) (does (rows z) r from s n) (does (columns z) c to t a.0) a.1));
        back = λ n le. let a = b.back n le in (a.0, subst (λ u. Below (other_places (At z h tabs x.places)) (other_ends (R tabs)) u (does (rows z) r from s a.0)) (red.same to t n) (shown_below tabs (At z h tabs x.places) (does (columns z) c to t n) (does (rows z) r from s a.0) a.1));
      }

abbrev pub Flag : ℕ → Bool → Fact
Flag t b = Holds (operand.Temp t) (value.Bool b)

-- what the temporaries tell of each end
abbrev pub pend : ℕ → Facts → End → Facts
pend t fs (Next v) = Flag (t + 2) false ∷ Flag (t + 1) false ∷ fs
pend t fs (Raised x) = Flag (t + 2) true ∷ Flag (t + 1) true ∷ Holds (operand.Temp t) (value.Obj x) ∷ fs
pend t fs (Return v) = Flag (t + 3) true ∷ Flag (t + 2) false ∷ Flag (t + 1) true ∷ Holds (operand.Temp t) v ∷ fs
pend t fs (Leave i) = Flag (t + 4) (is_further i) ∷ Flag (t + 3) false ∷ Flag (t + 2) false ∷ Flag (t + 1) true ∷ fs
pend t fs (Stopped kind) = fs
pend t fs Undefined = fs

-- the ends that a block can have, and that are kept
abbrev pub MayPend : End → Type 0
MayPend (Next v) = Unit {0}
MayPend (Raised x) = Unit {0}
MayPend (Return v) = Unit {0}
MayPend (Leave i) = i < 2
MayPend (Stopped kind) = ⊥
MayPend Undefined = ⊥

module _ (z : Setting) (h : Homes) (fs : Facts) (t : ℕ) (above : behind h ≤ t) (off : (d : ℕ) → t ≤ d → d < t + 5 → Off d fs) where
  -- a further flag is set
  set : (tabs : Tables) (gs : Facts) (d : ℕ) (b c : Bool) (s : S) (u : T) → c ≡ b → t ≤ d → Off d gs → Correspond z h tabs gs s u → Correspond z h tabs (Flag d b ∷ gs) s (nodes.writes u d (value.Bool c))
  set tabs gs d b c s u e le x y = fresh z h tabs gs d (value.Bool b) (value.Bool c) s u (ap (λ w. value.Bool w) e) (omega arith) x y

  returned : (tabs : Tables) (v w : Value) (s : S) (u : T) → v ≡ w → Correspond z h tabs fs s u → Correspond z h tabs (pend t fs (Return v)) s (shown_state t 0 (Return w) u)
  returned tabs v w s u e x =
      let f₀ : Facts = Holds (operand.Temp t) v ∷ fs in
      let f₁ : Facts = Flag (t + 1) true ∷ f₀ in
      let f₂ : Facts = Flag (t + 2) false ∷ f₁ in
      set tabs f₂ (t + 3) true true s _ refl (omega arith) (λ q. let e₁ : t + 2 ≡ t + 3 = q in omega arith, (λ q. let e₁ : t + 1 ≡ t + 3 = q in omega arith, (λ q. let e₁ : t ≡ t + 3 = q in omega arith, off (t + 3) (omega arith) (omega arith))))
      (set tabs f₁ (t + 2) false false s _ refl (omega arith) (λ q. let e₁ : t + 1 ≡ t + 2 = q in omega arith, (λ q. let e₁ : t ≡ t + 2 = q in omega arith, off (t + 2) (omega arith) (omega arith)))
      (set tabs f₀ (t + 1) true true s _ refl (omega arith) (λ q. let e₁ : t ≡ t + 1 = q in omega arith, off (t + 1) (omega arith) (omega arith))
      (fresh z h tabs fs t v w s u (sym e) above (off (t) (omega arith) (omega arith)) x)))

  left : (tabs : Tables) (i j : ℕ) (s : S) (u : T) → i ≡ j → Correspond z h tabs fs s u → Correspond z h tabs (pend t fs (Leave i)) s (shown_state t 0 (Leave j) u)
  left tabs i j s u e x =
      let f₁ : Facts = Flag (t + 1) true ∷ fs in
      let f₂ : Facts = Flag (t + 2) false ∷ f₁ in
      let f₃ : Facts = Flag (t + 3) false ∷ f₂ in
      set tabs f₃ (t + 4) (is_further i) (is_further j) s _ (ap (λ n. is_further n) (sym e)) (omega arith) (λ q. let e₁ : t + 3 ≡ t + 4 = q in omega arith, (λ q. let e₁ : t + 2 ≡ t + 4 = q in omega arith, (λ q. let e₁ : t + 1 ≡ t + 4 = q in omega arith, off (t + 4) (omega arith) (omega arith))))
      (set tabs f₂ (t + 3) false false s _ refl (omega arith) (λ q. let e₁ : t + 2 ≡ t + 3 = q in omega arith, (λ q. let e₁ : t + 1 ≡ t + 3 = q in omega arith, off (t + 3) (omega arith) (omega arith)))
      (set tabs f₁ (t + 2) false false s _ refl (omega arith) (λ q. let e₁ : t + 1 ≡ t + 2 = q in omega arith, off (t + 2) (omega arith) (omega arith))
      (set tabs fs (t + 1) true true s u refl (omega arith) (off (t + 1) (omega arith) (omega arith)) x)))

  -- after the rewriting, returns and leaves lead to the nearest loop; then exceptions do; then values do
  abbrev Rewritten : AllEnds
  Rewritten tabs (Next v) s (Next w) u = Correspond z h tabs fs s u
  Rewritten tabs (Raised x) s (Raised y) u = (x ≡ y) × Correspond z h tabs fs s u
  Rewritten tabs (Return v) s (Leave zero) u = Correspond z h tabs (pend t fs (Return v)) s u
  Rewritten tabs (Leave i) s (Leave zero) u = (i < 2) × Correspond z h tabs (pend t fs (Leave i)) s u
  Rewritten tabs (Stopped i) s (Stopped j) u = i ≡ j
  Rewritten tabs Undefined s Undefined u = Unit {0}
  Rewritten tabs e s e' u = ⊥

  rewrites : (tabs : Tables) (e : End) (s : S) (e' : End) (u : T) → EndsAs z h 2 (λ v. fs) fs tabs e s e' u → Rewritten tabs e s (shown_end 0 e') (shown_state t 0 e' u)
  rewrites tabs (Next v) s (Next w) u x = x
  rewrites tabs (Raised i) s (Raised j) u x = x
  rewrites tabs (Return v) s (Return w) u x = returned tabs v w s u x.0 x.1
  rewrites tabs (Leave i) s (Leave j) u x = (x.1, left tabs i j s u x.0 x.2)
  rewrites tabs (Stopped i) s (Stopped j) u x = x
  rewrites tabs Undefined s Undefined u x = tt
  rewrites tabs e s e' u x = absurd x

  abbrev Caught : AllEnds
  Caught tabs (Next v) s (Next w) u = Correspond z h tabs fs s u
  Caught tabs (Raised x) s (Leave zero) u = Correspond z h tabs (pend t fs (Raised x)) s u
  Caught tabs (Return v) s (Leave zero) u = Correspond z h tabs (pend t fs (Return v)) s u
  Caught tabs (Leave i) s (Leave zero) u = (i < 2) × Correspond z h tabs (pend t fs (Leave i)) s u
  Caught tabs (Stopped i) s (Stopped j) u = i ≡ j
  Caught tabs Undefined s Undefined u = Unit {0}
  Caught tabs e s e' u = ⊥

  catches : Settles z h Rewritten Caught (on_raised (nodes.handled t (nodes.block_row (target z) (tree.Follow (flag (t + 1) true) (tree.Follow (flag (t + 2) true) (alone (tree.Leave 1)))))))
  catches tabs (Next v) s (Next w) u x = (Next w, u, record { bound = 0; by = refl }, x)
  catches tabs (Raised i) s (Raised j) u x = (
    Leave 0,
    nodes.writes (nodes.writes (nodes.writes u t (value.Obj j)) (t + 1) (value.Bool true)) (t + 2) (value.Bool true),
    record { bound = 0; by = refl },
    set tabs (Flag (t + 1) true ∷ Holds (operand.Temp t) (value.Obj i) ∷ fs) (t + 2) true true s _ refl (omega arith) (λ q. let e₁ : t + 1 ≡ t + 2 = q in omega arith, (λ q. let e₁ : t ≡ t + 2 = q in omega arith, off (t + 2) (omega arith) (omega arith)))
        (set tabs (Holds (operand.Temp t) (value.Obj i) ∷ fs) (t + 1) true true s _ refl (omega arith) (λ q. let e₁ : t ≡ t + 1 = q in omega arith, off (t + 1) (omega arith) (omega arith))
        (fresh z h tabs fs t (value.Obj i) (value.Obj j) s u (ap (λ n. value.Obj n) (sym x.0)) above (off (t) (omega arith) (omega arith)) x.1)),
  )
  catches tabs (Return v) s (Leave zero) u x = (Leave 0, u, record { bound = 0; by = refl }, x)
  catches tabs (Leave i) s (Leave zero) u x = (Leave 0, u, record { bound = 0; by = refl }, x)
  catches tabs (Stopped i) s (Stopped j) u x = (Stopped j, u, record { bound = 0; by = refl }, x)
  catches tabs Undefined s Undefined u x = (Undefined, u, record { bound = 0; by = refl }, x)
  catches tabs e s e' u x = absurd x

  abbrev Leaving : AllEnds
  Leaving tabs (Next v) s (Leave zero) u = Correspond z h tabs (pend t fs (Next v)) s u
  Leaving tabs (Raised x) s (Leave zero) u = Correspond z h tabs (pend t fs (Raised x)) s u
  Leaving tabs (Return v) s (Leave zero) u = Correspond z h tabs (pend t fs (Return v)) s u
  Leaving tabs (Leave i) s (Leave zero) u = (i < 2) × Correspond z h tabs (pend t fs (Leave i)) s u
  Leaving tabs (Stopped i) s (Stopped j) u = i ≡ j
  Leaving tabs Undefined s Undefined u = Unit {0}
  Leaving tabs e s e' u = ⊥

  leaves : Settles z h Caught Leaving (on_next (λ w. nodes.block_row (target z) (tree.Follow (flag (t + 1) false) (tree.Follow (flag (t + 2) false) (alone (tree.Leave 1))))))
  leaves tabs (Next v) s (Next w) u x = (
    Leave 0,
    nodes.writes (nodes.writes u (t + 1) (value.Bool false)) (t + 2) (value.Bool false),
    record { bound = 0; by = refl },
    set tabs (Flag (t + 1) false ∷ fs) (t + 2) false false s _ refl (omega arith) (λ q. let e₁ : t + 1 ≡ t + 2 = q in omega arith, off (t + 2) (omega arith) (omega arith))
        (set tabs fs (t + 1) false false s u refl (omega arith) (off (t + 1) (omega arith) (omega arith)) x),
  )
  leaves tabs (Raised i) s (Leave zero) u x = (Leave 0, u, record { bound = 0; by = refl }, x)
  leaves tabs (Return v) s (Leave zero) u x = (Leave 0, u, record { bound = 0; by = refl }, x)
  leaves tabs (Leave i) s (Leave zero) u x = (Leave 0, u, record { bound = 0; by = refl }, x)
  leaves tabs (Stopped i) s (Stopped j) u x = (Stopped j, u, record { bound = 0; by = refl }, x)
  leaves tabs Undefined s Undefined u x = (Undefined, u, record { bound = 0; by = refl }, x)
  leaves tabs e s e' u x = absurd x

  -- each end is kept
  abbrev pub Kept : AllEnds
  Kept tabs (Next v) s (Next w) u = Correspond z h tabs (pend t fs (Next v)) s u
  Kept tabs (Raised x) s (Next w) u = Correspond z h tabs (pend t fs (Raised x)) s u
  Kept tabs (Return v) s (Next w) u = Correspond z h tabs (pend t fs (Return v)) s u
  Kept tabs (Leave i) s (Next w) u = (i < 2) × Correspond z h tabs (pend t fs (Leave i)) s u
  Kept tabs (Stopped i) s (Stopped j) u = i ≡ j
  Kept tabs Undefined s Undefined u = Unit {0}
  Kept tabs e s e' u = ⊥

  keeps : EndsLoop z h Leaving Kept
  keeps tabs (Next v) s (Leave zero) u x = (Next value.None, refl, x)
  keeps tabs (Raised i) s (Leave zero) u x = (Next value.None, refl, x)
  keeps tabs (Return v) s (Leave zero) u x = (Next value.None, refl, x)
  keeps tabs (Leave i) s (Leave zero) u x = (Next value.None, refl, x)
  keeps tabs (Stopped i) s (Stopped j) u x = (Stopped j, refl, x)
  keeps tabs Undefined s Undefined u x = (Undefined, refl, x)
  keeps tabs e s e' u x = absurd x

  pub kept_by : (gs : Facts) (r : python.R) (b : tree.Block) → CarriedTo z h (EndsAs z h 2 (λ v. fs) fs) gs r (nodes.block_row (target z) b) → CarriedTo z h Kept gs r (nodes.form_row (target z) (guarded t b))
  kept_by gs r b x =
      once_by z h _ Leaving Kept r (guarded_block t b) keeps
      (tidy_by z h _ Caught Leaving r _ _ leaves
      (tidy_by z h _ Rewritten Caught r _ _ catches
      (redirected_by z h t 0 (EndsAs z h 2 (λ v. fs) fs) Rewritten rewrites _ r _ _ (block_same (target z) (code_block z.script.codes) t b 0) x)))

  -- what follows each end that is kept
  module _ (Q : AllEnds) (K : End → python.R) (D : nodes.R) (stop : (i : _) → K (Stopped i) ≡ ends_with (Stopped i)) (undefined : K Undefined ≡ ends_with Undefined) (stops : (tabs : Tables) (i j : _) (s : S) (u : T) → i ≡ j → Q tabs (Stopped i) s (Stopped j) u) (says_nothing : (tabs : Tables) (s : S) (u : T) → Q tabs Undefined s Undefined u) (next : (e : End) → MayPend e → CarriedTo z h Q (pend t fs e) (K e) D) where
    goes : (i : ℕ) → CarriedBy z h (λ tabs s u. (i < 2) × Correspond z h tabs (pend t fs (Leave i)) s u) Q (K (Leave i)) D
    goes zero = by_map z h _ _ Q Q _ _ (λ tabs s u x. x.1) (λ tabs e s e' u x. x) (next (Leave 0) (omega arith))
    goes (suc zero) = by_map z h _ _ Q Q _ _ (λ tabs s u x. x.1) (λ tabs e s e' u x. x) (next (Leave 1) (omega arith))
    goes (suc (suc i)) = none_by z h _ Q _ _ (λ tabs s u x. let l : suc (suc i) < 2 = x.0 in absurd (omega arith))

    follows : (e e' : End) → CarriedBy z h (λ tabs s u. Kept tabs e s e' u) Q (K e) (on_next (λ w. D) e')
    follows (Next v) (Next w) = next (Next v) tt
    follows (Raised x) (Next w) = next (Raised x) tt
    follows (Return v) (Next w) = next (Return v) tt
    follows (Leave i) (Next w) = goes i
    follows (Stopped i) (Stopped j) = subst (λ r. CarriedBy z h (λ tabs s u. i ≡ j) Q r (ends_with (Stopped j))) (sym (stop i)) (act_by z h _ Q _ _ (λ tabs s u x. (refl, stops tabs i j s u x)))
    follows Undefined Undefined = subst (λ r. CarriedBy z h (λ tabs s u. Unit {0}) Q r (ends_with Undefined)) (sym undefined) (act_by z h _ Q _ _ (λ tabs s u x. (refl, says_nothing tabs s u)))
    follows e e' = none_by z h _ Q _ _ (λ tabs s u x. x)

    pub kept_then : (gs : Facts) (r : python.R) (c : nodes.R) → CarriedTo z h Kept gs r c → CarriedTo z h Q gs (Then r K) (nodes.followed c D)
    kept_then gs r c x = then_by z h _ Kept Q r c K _ x follows
