-- Carrying, by combinator: what the proof of a construct is put together from. `_by` lemmas have any states before and any ends after;
-- `_carried` lemmas have facts and the ends of a construct.
use Rattle.std.proofs.Common.{◌≡◌, ℕ, List, [], ◌∷◌, refl, sym, subst}
use Rattle.nu_value.specs.declared.value.Value.{Value}
use Rattle.nu_rows.specs.Rows.{End, Next, Leave, Raised, Return, Stopped, Undefined, Step, First, Second, How, Begin, Back, Effect, Row, Act, Yld, Then, Loop, sent, does}
use Rattle.nu_rows.specs.Words.{on_next, then_value}
use Rattle.nu_rows.specs.Sim.{Places, Ends, Sim, Both, other_places, other_ends}
use Rattle.nu_rows.specs.Matching.{ThenPlaces, ReadPlaces, TidyPlaces, PausePlace, Silent}
use Rattle.nu_rows.proofs.Congruence.{both_map, sim_map, act_both, then_both, pause_both}
use Rattle.nu_rows.proofs.OneSide.{read_right, tidy_right}
use Rattle.node_tree.specs.Blocks.{Block, append}
use Rattle.node_tree.specs.Nodes as nodes
use Rattle.py_meaning.specs.Frames as python
use Rattle.carries_base.specs.Frames.{Homes, Alike, Never, Facts}
use Rattle.carries_base.specs.Carries.{Setting, target, rows, columns, S, T, Table, Tables, Correspond, At, Agree, CarriedBy, CarriedTo}
use Rattle.carries_base.specs.Turns.{TurnedEnds}
use Rattle.carries_base.proofs.Turns.{turns_both}
use Rattle.carries_base.proofs.Append.{split, sim_append}
use Rattle.carries_base.proofs.Facts.{refit}

-- States before, and ends after, as relations under the tables of the codes
abbrev pub States : Type 1
States = Tables → S → T → Type 0

abbrev pub AllEnds : Type 1
AllEnds = Tables → Ends S T

-- no places
abbrev pub nowhere : Table
nowhere p q = Never ∷ []

-- places of two rows and of what follows their ends
abbrev pub then_table : Table → (End → End → Table) → Table
then_table a b (First ∷ p) (First ∷ q) = a p q
then_table a b (Second e ∷ p) (Second e' ∷ q) = b e e' p q
then_table a b p q = Never ∷ []

-- of a row beside what comes first, or last, on the right alone
abbrev pub right_table : (Value → Table) → Table
right_table a p (Second (Next v) ∷ q) = a v p q
right_table a p q = Never ∷ []

abbrev pub right_at : (Value → Table) → End → Table
right_at a (Next v) p q = a v p q
right_at a e p q = Never ∷ []

abbrev pub left_table : (Value → Table) → Table
left_table a (Second (Next v) ∷ p) q = a v p q
left_table a p q = Never ∷ []

abbrev pub tidy_table : Table → Table
tidy_table a p (First ∷ q) = a p q
tidy_table a p q = Never ∷ []

-- the place of a pause
abbrev pub here : Facts → Table
here fs [] [] = fs
here fs p q = Never ∷ []

-- an end that is no value
abbrev pub IsOver : End → Type 0
IsOver (Next v) = ⊥
IsOver e = Unit {0}

flip : {S T I J : Type 0} (rows : I → Row S I) (cols : J → Row T J) (L : ℕ) (P : Places S T) (Pre : S → T → Type 0) (Q : Ends S T) (r : Row S I) (c : Row T J) → Sim rows cols L P Pre Q r c → Sim cols rows L (other_places P) (λ t s. Pre s t) (other_ends Q) c r
flip rows cols L P Pre Q r c h = record {
  begins = λ t s x. let b = h.begins s t x in record { there = b.back; back = b.there };
  goes_on = λ q p how t s x. let b = h.goes_on p q how s t x in record { there = b.back; back = b.there };
}

module _ (z : Setting) (h : Homes) where
  pub none_at : (tabs : Tables) (p : List Step) (s : S) (q : List Step) (t : T) → ¬ At z h tabs nowhere p s q t
  none_at tabs p s q t x = x.frames.facts

  -- another way to say which places correspond
  sim_places : (L : ℕ) (P P' : Places S T) (Pre : S → T → Type 0) (Q : Ends S T) (r : python.R) (c : nodes.R) → ((p : List Step) (s : S) (q : List Step) (t : T) → P p s q t → P' p s q t) → ((p : List Step) (s : S) (q : List Step) (t : T) → P' p s q t → P p s q t) → Sim (rows z) (columns z) L P Pre Q r c → Sim (rows z) (columns z) L P' Pre Q r c
  sim_places L P P' Pre Q r c f g x = record {
    begins = λ s t pre. both_map (rows z) (columns z) L P P' Q Q f (λ e s e' t x. x) _ _ (x.begins s t pre);
    goes_on = λ p q how s t y. both_map (rows z) (columns z) L P P' Q Q f (λ e s e' t x. x) _ _ (x.goes_on p q how s t (g p s q t y));
  }

  -- from less, to more
  pub by_map : (Pre Pre' : States) (Q Q' : AllEnds) (r : python.R) (c : nodes.R) → ((tabs : Tables) (s : S) (t : T) → Pre' tabs s t → Pre tabs s t) → ((tabs : Tables) (e : End) (s : S) (e' : End) (t : T) → Q tabs e s e' t → Q' tabs e s e' t) → CarriedBy z h Pre Q r c → CarriedBy z h Pre' Q' r c
  by_map Pre Pre' Q Q' r c f g x = record {
    places = x.places;
    sim = λ tabs L agree. sim_map (rows z) (columns z) L (At z h tabs x.places) (Pre tabs) (Pre' tabs) (Q tabs) (Q' tabs) r c (f tabs) (g tabs) (x.sim tabs L agree);
  }

  -- from no states
  pub none_by : (Pre : States) (Q : AllEnds) (r : python.R) (c : nodes.R) → ((tabs : Tables) (s : S) (t : T) → ¬ Pre tabs s t) → CarriedBy z h Pre Q r c
  none_by Pre Q r c nothing = record {
    places = nowhere;
    sim = λ tabs L agree. record { begins = λ s t x. absurd (nothing tabs s t x); goes_on = λ p q how s t x. absurd x.frames.facts };
  }

  -- two acts
  pub act_by : (Pre : States) (Q : AllEnds) (f : S → Effect S) (g : T → Effect T) → ((tabs : Tables) (s : S) (t : T) → Pre tabs s t → ((f s).out ≡ (g t).out) × Q tabs (f s).end (f s).state (g t).end (g t).state) → CarriedBy z h Pre Q (Act f) (Act g)
  act_by Pre Q f g k = record {
    places = nowhere;
    sim = λ tabs L agree. act_both (rows z) (columns z) L (At z h tabs nowhere) (Pre tabs) (Q tabs) f g (none_at tabs) (λ s t x. let a = k tabs s t x in record { outs = a.0; ends = a.1 });
  }

  then_from : (tabs : Tables) (a : Table) (b : End → End → Table) (p : List Step) (s : S) (q : List Step) (t : T) → ThenPlaces (At z h tabs a) (λ e e'. At z h tabs (b e e')) p s q t → At z h tabs (then_table a b) p s q t
  then_from tabs a b [] s q t x = absurd x
  then_from tabs a b (First ∷ p) s [] t x = absurd x
  then_from tabs a b (First ∷ p) s (First ∷ q) t x = x
  then_from tabs a b (First ∷ p) s (Second e' ∷ q) t x = absurd x
  then_from tabs a b (Second e ∷ p) s [] t x = absurd x
  then_from tabs a b (Second e ∷ p) s (First ∷ q) t x = absurd x
  then_from tabs a b (Second e ∷ p) s (Second e' ∷ q) t x = x

  then_to : (tabs : Tables) (a : Table) (b : End → End → Table) (p : List Step) (s : S) (q : List Step) (t : T) → At z h tabs (then_table a b) p s q t → ThenPlaces (At z h tabs a) (λ e e'. At z h tabs (b e e')) p s q t
  then_to tabs a b [] s q t x = x.frames.facts
  then_to tabs a b (First ∷ p) s [] t x = x.frames.facts
  then_to tabs a b (First ∷ p) s (First ∷ q) t x = x
  then_to tabs a b (First ∷ p) s (Second e' ∷ q) t x = x.frames.facts
  then_to tabs a b (Second e ∷ p) s [] t x = x.frames.facts
  then_to tabs a b (Second e ∷ p) s (First ∷ q) t x = x.frames.facts
  then_to tabs a b (Second e ∷ p) s (Second e' ∷ q) t x = x

  -- two rows, and what follows each pair of ends
  pub then_by : (Pre : States) (R Q : AllEnds) (r : python.R) (c : nodes.R) (K : End → python.R) (D : End → nodes.R) → CarriedBy z h Pre R r c → ((e e' : End) → CarriedBy z h (λ tabs s t. R tabs e s e' t) Q (K e) (D e')) → CarriedBy z h Pre Q (Then r K) (Then c D)
  then_by Pre R Q r c K D x next = record {
    places = then_table x.places (λ e e'. (next e e').places);
    sim = λ tabs L agree. sim_places L _ _ (Pre tabs) (Q tabs) _ _ (then_from tabs x.places (λ e e'. (next e e').places)) (then_to tabs x.places (λ e e'. (next e e').places))
        (then_both (rows z) (columns z) L (At z h tabs x.places) (λ e e'. At z h tabs (next e e').places) (Pre tabs) (R tabs) (Q tabs) r c K D (x.sim tabs L agree) (λ e e'. (next e e').sim tabs L agree));
  }

  tidy_from : (tabs : Tables) (a : Table) (p : List Step) (s : S) (q : List Step) (t : T) → TidyPlaces (At z h tabs a) p s q t → At z h tabs (tidy_table a) p s q t
  tidy_from tabs a p s [] t x = absurd x
  tidy_from tabs a p s (First ∷ q) t x = x
  tidy_from tabs a p s (Second e ∷ q) t x = absurd x

  tidy_to : (tabs : Tables) (a : Table) (p : List Step) (s : S) (q : List Step) (t : T) → At z h tabs (tidy_table a) p s q t → TidyPlaces (At z h tabs a) p s q t
  tidy_to tabs a p s [] t x = x.frames.facts
  tidy_to tabs a p s (First ∷ q) t x = x
  tidy_to tabs a p s (Second e ∷ q) t x = x.frames.facts

  -- what follows on the right alone is silent, and ends at once
  abbrev pub Settles : AllEnds → AllEnds → (End → nodes.R) → Type 0
  Settles R Q D = (tabs : Tables) (e : End) (s : S) (e' : End) (t : T) → R tabs e s e' t → (e'' : End) × (t' : T) × Silent (does (columns z) (D e') Begin t) e'' t' × Q tabs e s e'' t'

  pub tidy_by : (Pre : States) (R Q : AllEnds) (r : python.R) (c : nodes.R) (D : End → nodes.R) → Settles R Q D → CarriedBy z h Pre R r c → CarriedBy z h Pre Q r (Then c D)
  tidy_by Pre R Q r c D done x = record {
    places = tidy_table x.places;
    sim = λ tabs L agree. sim_places L _ _ (Pre tabs) (Q tabs) r _ (tidy_from tabs x.places) (tidy_to tabs x.places)
        (tidy_right (rows z) (columns z) L (At z h tabs x.places) (Pre tabs) (R tabs) (Q tabs) r c D (done tabs) (x.sim tabs L agree));
  }

  -- what comes first on the right alone is silent, and gives a value
  right_from : (tabs : Tables) (a : Value → Table) (p : List Step) (s : S) (q : List Step) (t : T) → ReadPlaces (λ e. At z h tabs (right_at a e)) p s q t → At z h tabs (right_table a) p s q t
  right_from tabs a p s [] t x = absurd x
  right_from tabs a p s (First ∷ q) t x = absurd x
  right_from tabs a p s (Second (Next w) ∷ q) t x = x
  right_from tabs a p s (Second (Leave w) ∷ q) t x = x
  right_from tabs a p s (Second (Raised w) ∷ q) t x = x
  right_from tabs a p s (Second (Return w) ∷ q) t x = x
  right_from tabs a p s (Second (Stopped w) ∷ q) t x = x
  right_from tabs a p s (Second Undefined ∷ q) t x = x

  right_to : (tabs : Tables) (a : Value → Table) (p : List Step) (s : S) (q : List Step) (t : T) → At z h tabs (right_table a) p s q t → ReadPlaces (λ e. At z h tabs (right_at a e)) p s q t
  right_to tabs a p s [] t x = x.frames.facts
  right_to tabs a p s (First ∷ q) t x = x.frames.facts
  right_to tabs a p s (Second (Next w) ∷ q) t x = x
  right_to tabs a p s (Second (Leave w) ∷ q) t x = x
  right_to tabs a p s (Second (Raised w) ∷ q) t x = x
  right_to tabs a p s (Second (Return w) ∷ q) t x = x
  right_to tabs a p s (Second (Stopped w) ∷ q) t x = x
  right_to tabs a p s (Second Undefined ∷ q) t x = x

  left_from : (tabs : Tables) (a : Value → Table) (p : List Step) (s : S) (q : List Step) (t : T) → other_places (ReadPlaces (λ e. other_places (At z h tabs (right_at a e)))) p s q t → At z h tabs (left_table a) p s q t
  left_from tabs a [] s q t x = absurd x
  left_from tabs a (First ∷ p) s q t x = absurd x
  left_from tabs a (Second (Next w) ∷ p) s q t x = x
  left_from tabs a (Second (Leave w) ∷ p) s q t x = x
  left_from tabs a (Second (Raised w) ∷ p) s q t x = x
  left_from tabs a (Second (Return w) ∷ p) s q t x = x
  left_from tabs a (Second (Stopped w) ∷ p) s q t x = x
  left_from tabs a (Second Undefined ∷ p) s q t x = x

  left_to : (tabs : Tables) (a : Value → Table) (p : List Step) (s : S) (q : List Step) (t : T) → At z h tabs (left_table a) p s q t → other_places (ReadPlaces (λ e. other_places (At z h tabs (right_at a e)))) p s q t
  left_to tabs a [] s q t x = x.frames.facts
  left_to tabs a (First ∷ p) s q t x = x.frames.facts
  left_to tabs a (Second (Next w) ∷ p) s q t x = x
  left_to tabs a (Second (Leave w) ∷ p) s q t x = x
  left_to tabs a (Second (Raised w) ∷ p) s q t x = x
  left_to tabs a (Second (Return w) ∷ p) s q t x = x
  left_to tabs a (Second (Stopped w) ∷ p) s q t x = x
  left_to tabs a (Second Undefined ∷ p) s q t x = x

  -- the states once the act on one side alone has given this value
  abbrev pub Midway : (Value → States) → Tables → End → S → T → Type 0
  Midway Mid tabs (Next v) s t = Mid v tabs s t
  Midway Mid tabs e s t = ⊥

  right_next : (Mid : Value → States) (Q : AllEnds) (r : python.R) (D : Value → nodes.R) (tabs : Tables) (L : ℕ) → Agree z tabs L → (next : (v : Value) → CarriedBy z h (Mid v) Q r (D v)) → (e : End) → Sim (rows z) (columns z) L (At z h tabs (right_at (λ v. (next v).places) e)) (Midway Mid tabs e) (Q tabs) r (on_next D e)
  right_next Mid Q r D tabs L agree next (Next v) = (next v).sim tabs L agree
  right_next Mid Q r D tabs L agree next (Leave n) = record { begins = λ s t x. absurd x; goes_on = λ p q how s t x. absurd x.frames.facts }
  right_next Mid Q r D tabs L agree next (Raised n) = record { begins = λ s t x. absurd x; goes_on = λ p q how s t x. absurd x.frames.facts }
  right_next Mid Q r D tabs L agree next (Return n) = record { begins = λ s t x. absurd x; goes_on = λ p q how s t x. absurd x.frames.facts }
  right_next Mid Q r D tabs L agree next (Stopped n) = record { begins = λ s t x. absurd x; goes_on = λ p q how s t x. absurd x.frames.facts }
  right_next Mid Q r D tabs L agree next Undefined = record { begins = λ s t x. absurd x; goes_on = λ p q how s t x. absurd x.frames.facts }

  pub right_by : (Pre : States) (Mid : Value → States) (Q : AllEnds) (r : python.R) (g : T → Effect T) (D : Value → nodes.R) → ((tabs : Tables) (s : S) (t : T) → Pre tabs s t → ((g t).out ≡ []) × Midway Mid tabs (g t).end s (g t).state) → ((v : Value) → CarriedBy z h (Mid v) Q r (D v)) → CarriedBy z h Pre Q r (then_value (Act g) D)
  right_by Pre Mid Q r g D silent next = record {
    places = right_table (λ v. (next v).places);
    sim = λ tabs L agree. sim_places L _ _ (Pre tabs) (Q tabs) r _ (right_from tabs (λ v. (next v).places)) (right_to tabs (λ v. (next v).places))
        (read_right (rows z) (columns z) L (λ e. At z h tabs (right_at (λ v. (next v).places) e)) (Pre tabs) (Midway Mid tabs) (Q tabs) r g (on_next D) (silent tabs) (right_next Mid Q r D tabs L agree next));
  }

  left_next : (Mid : Value → States) (Q : AllEnds) (K : Value → python.R) (c : nodes.R) (tabs : Tables) (L : ℕ) → Agree z tabs L → (next : (v : Value) → CarriedBy z h (Mid v) Q (K v) c) → (e : End) → Sim (columns z) (rows z) L (other_places (At z h tabs (right_at (λ v. (next v).places) e))) (λ t s. Midway Mid tabs e s t) (other_ends (Q tabs)) c (on_next K e)
  left_next Mid Q K c tabs L agree next (Next v) = flip (rows z) (columns z) L _ _ _ _ _ ((next v).sim tabs L agree)
  left_next Mid Q K c tabs L agree next (Leave n) = record { begins = λ t s x. absurd x; goes_on = λ q p how t s x. absurd x.frames.facts }
  left_next Mid Q K c tabs L agree next (Raised n) = record { begins = λ t s x. absurd x; goes_on = λ q p how t s x. absurd x.frames.facts }
  left_next Mid Q K c tabs L agree next (Return n) = record { begins = λ t s x. absurd x; goes_on = λ q p how t s x. absurd x.frames.facts }
  left_next Mid Q K c tabs L agree next (Stopped n) = record { begins = λ t s x. absurd x; goes_on = λ q p how t s x. absurd x.frames.facts }
  left_next Mid Q K c tabs L agree next Undefined = record { begins = λ t s x. absurd x; goes_on = λ q p how t s x. absurd x.frames.facts }

  -- what comes first on the left alone is silent, and gives a value
  pub left_by : (Pre : States) (Mid : Value → States) (Q : AllEnds) (f : S → Effect S) (K : Value → python.R) (c : nodes.R) → ((tabs : Tables) (s : S) (t : T) → Pre tabs s t → ((f s).out ≡ []) × Midway Mid tabs (f s).end (f s).state t) → ((v : Value) → CarriedBy z h (Mid v) Q (K v) c) → CarriedBy z h Pre Q (then_value (Act f) K) c
  left_by Pre Mid Q f K c silent next = record {
    places = left_table (λ v. (next v).places);
    sim = λ tabs L agree. sim_places L _ _ (Pre tabs) (Q tabs) _ c (left_from tabs (λ v. (next v).places)) (left_to tabs (λ v. (next v).places))
        (flip (columns z) (rows z) L _ _ _ _ _
        (read_right (columns z) (rows z) L (λ e. other_places (At z h tabs (right_at (λ v. (next v).places) e))) (λ t s. Pre tabs s t) (λ e t s. Midway Mid tabs e s t) (other_ends (Q tabs)) c f (on_next K) (λ t s x. silent tabs s t x) (left_next Mid Q K c tabs L agree next)));
  }

  -- a value that is known to be another
  pub alike_by : (v w : Value) (Pre : States) (Q : AllEnds) (K : Value → python.R) (D : Value → nodes.R) → CarriedBy z h Pre Q (K w) (D w) → CarriedBy z h (λ tabs s t. (v ≡ w) × Pre tabs s t) Q (K v) (D v)
  alike_by v w Pre Q K D x = record {
    places = λ p q. Alike v w ∷ x.places p q;
    sim = λ tabs L agree. record {
      begins = λ s t y. subst (λ u. Both L (At z h tabs (λ p q. Alike v w ∷ x.places p q)) (Q tabs) (does (rows z) (K u) Begin s) (does (columns z) (D u) Begin t)) (sym y.0)
          (both_map (rows z) (columns z) L (At z h tabs x.places) (At z h tabs (λ p q. Alike v w ∷ x.places p q)) (Q tabs) (Q tabs) (λ p s q t b. refit z h tabs (x.places p q) (Alike v w ∷ x.places p q) s t (λ k. (y.0, k)) b) (λ e s e' t b. b) _ _ ((x.sim tabs L agree).begins s t y.1));
      goes_on = λ p q how s t y. let e = y.frames.facts.0 in subst (λ u. Both L (At z h tabs (λ p q. Alike v w ∷ x.places p q)) (Q tabs) (does (rows z) (K u) (Back p how) s) (does (columns z) (D u) (Back q how) t)) (sym e)
          (both_map (rows z) (columns z) L (At z h tabs x.places) (At z h tabs (λ p q. Alike v w ∷ x.places p q)) (Q tabs) (Q tabs) (λ p s q t b. refit z h tabs (x.places p q) (Alike v w ∷ x.places p q) s t (λ k. (e, k)) b) (λ e s e' t b. b) _ _ ((x.sim tabs L agree).goes_on p q how s t (refit z h tabs (Alike v w ∷ x.places p q) (x.places p q) s t (λ k. k.1) y)));
    };
  }

  -- two blocks are one
  pub append_by : (Pre : States) (Q : AllEnds) (r : python.R) (xs ys : Block) → CarriedBy z h Pre Q r (then_value (nodes.block_row (target z) xs) (λ w. nodes.block_row (target z) ys)) → CarriedBy z h Pre Q r (nodes.block_row (target z) (append xs ys))
  append_by Pre Q r xs ys x = record {
    places = λ p q. x.places p (split xs q);
    sim = λ tabs L agree. sim_append (target z) _ (rows z) L (At z h tabs x.places) (Pre tabs) (Q tabs) r xs ys (x.sim tabs L agree);
  }

  -- a further turn of a loop on the left is an item, and on the right the loop's body
  pub loop_by : (Inv : States) (Q : AllEnds) (i : python.Item) (r : python.R) (b : Block) → rows z i ≡ Loop r i → CarriedBy z h Inv (λ tabs. TurnedEnds (Inv tabs) (Q tabs)) r (nodes.block_row (target z) b) → CarriedBy z h Inv Q (Loop r i) (Loop (nodes.block_row (target z) b) (nodes.OfLoop b))
  loop_by Inv Q i r b ei x = record {
    places = x.places;
    sim = λ tabs L agree. turns_both (rows z) (columns z) L (At z h tabs x.places) (Inv tabs) (Q tabs) i r (nodes.OfLoop b) (nodes.block_row (target z) b) ei refl (x.sim tabs L agree);
  }

  -- a pause
  here_from : (tabs : Tables) (fs : Facts) (p : List Step) (s : S) (q : List Step) (t : T) → PausePlace (Correspond z h tabs fs) p s q t → At z h tabs (here fs) p s q t
  here_from tabs fs [] s [] t x = x
  here_from tabs fs [] s (y ∷ q) t x = absurd x
  here_from tabs fs (y ∷ p) s q t x = absurd x

  here_to : (tabs : Tables) (fs : Facts) (p : List Step) (s : S) (q : List Step) (t : T) → At z h tabs (here fs) p s q t → PausePlace (Correspond z h tabs fs) p s q t
  here_to tabs fs [] s [] t x = x
  here_to tabs fs [] s (y ∷ q) t x = absurd x.frames.facts
  here_to tabs fs (y ∷ p) s q t x = absurd x.frames.facts

  pub pause_by : (fs : Facts) (Q : AllEnds) (v : Value) → ((tabs : Tables) (how : How) (s : S) (t : T) → Correspond z h tabs fs s t → Q tabs (sent how) s (sent how) t) → CarriedTo z h Q fs (Yld v) (Yld v)
  pause_by fs Q v done = record {
    places = here fs;
    sim = λ tabs L agree. sim_places L _ _ (Correspond z h tabs fs) (Q tabs) _ _ (here_from tabs fs) (here_to tabs fs)
        (pause_both (rows z) (columns z) L (Correspond z h tabs fs) (Correspond z h tabs fs) (Q tabs) v (λ s t x. x) (done tabs));
  }
