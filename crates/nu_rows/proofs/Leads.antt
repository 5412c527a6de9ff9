-- One direction of a correspondence, by combinator. The other direction is the same lemma with the sides exchanged.
use Rattle.std.proofs.Common.{◌≡◌, ℕ, zero, suc, ◌+◌, List, ◌∷◌, ◌++◌, sym, ap, ◌∙◌, subst, arith}
use Rattle.nu_value.specs.declared.value.Value.TheVariants as value
use Rattle.nu_rows.specs.Rows.{End, Next, Leave, Raised, Return, Stopped, Undefined, Step, First, Second, Res, Spent, Paused, Ended, shift, after, before, turned}
use Rattle.nu_run.specs.Runs.{IsPrefix}
use Rattle.nu_run.proofs.Runs.{prefix_trans}
use Rattle.nu_rows.specs.Sim.{printed, Grow, Growing, Places, Ends, Below}
use Rattle.nu_rows.specs.Matching.{TurnEnds}
use Rattle.nu_rows.proofs.Grow.{prefix_behind, shift_printed, before_printed, after_printed, turned_printed, grows_to, below_grow}

-- weaker places and ends
pub below_map : {S T : Type 0} (P P' : Places S T) (Q Q' : Ends S T) → ((p : List Step) (s : S) (q : List Step) (t : T) → P p s q t → P' p s q t) → ((e : End) (s : S) (e' : End) (t : T) → Q e s e' t → Q' e s e' t) → (r : Res S) (c : Res T) → Below P Q r c → Below P' Q' r c
below_map P P' Q Q' f g (Spent o) c h = h
below_map P P' Q Q' f g (Paused o s v p) (Spent o') h = absurd h
below_map P P' Q Q' f g (Paused o s v p) (Paused o' t v' q) h = (h.0, h.1, f p s q t h.2)
below_map P P' Q Q' f g (Paused o s v p) (Ended o' t e') h = absurd h
below_map P P' Q Q' f g (Ended o s e) (Spent o') h = absurd h
below_map P P' Q Q' f g (Ended o s e) (Paused o' t v' q) h = absurd h
below_map P P' Q Q' f g (Ended o s e) (Ended o' t e') h = (h.0, g e s e' t h.1)

-- what was printed before, and a step in front of a place, on both sides
pub below_shift : {S T : Type 0} (P P' : Places S T) (Q : Ends S T) (x y : Step) → ((p : List Step) (s : S) (q : List Step) (t : T) → P p s q t → P' (x ∷ p) s (y ∷ q) t) → (o o' : List ℕ) → o ≡ o' → (r : Res S) (c : Res T) → Below P Q r c → Below P' Q (shift o x r) (shift o' y c)
below_shift P P' Q x y f o o' eo (Spent a) c h =
    subst (λ u. IsPrefix (o ++ a) u) (ap (λ u. u ++ printed c) eo ∙ sym (shift_printed o' y c)) (prefix_behind o a (printed c) h)
below_shift P P' Q x y f o o' eo (Paused a s v p) (Spent b) h = absurd h
below_shift P P' Q x y f o o' eo (Paused a s v p) (Paused b t w q) h = (cc (h.0, eo), h.1, f p s q t h.2)
below_shift P P' Q x y f o o' eo (Paused a s v p) (Ended b t e') h = absurd h
below_shift P P' Q x y f o o' eo (Ended a s e) (Spent b) h = absurd h
below_shift P P' Q x y f o o' eo (Ended a s e) (Paused b t w q) h = absurd h
below_shift P P' Q x y f o o' eo (Ended a s e) (Ended b t e') h = (cc (h.0, eo), h.1)

pub below_before : {S T : Type 0} (P : Places S T) (Q : Ends S T) (o o' : List ℕ) → o ≡ o' → (r : Res S) (c : Res T) → Below P Q r c → Below P Q (before o r) (before o' c)
below_before P Q o o' eo (Spent a) c h =
    subst (λ u. IsPrefix (o ++ a) u) (ap (λ u. u ++ printed c) eo ∙ sym (before_printed o' c)) (prefix_behind o a (printed c) h)
below_before P Q o o' eo (Paused a s v p) (Spent b) h = absurd h
below_before P Q o o' eo (Paused a s v p) (Paused b t w q) h = (cc (h.0, eo), h.1, h.2)
below_before P Q o o' eo (Paused a s v p) (Ended b t e') h = absurd h
below_before P Q o o' eo (Ended a s e) (Spent b) h = absurd h
below_before P Q o o' eo (Ended a s e) (Paused b t w q) h = absurd h
below_before P Q o o' eo (Ended a s e) (Ended b t e') h = (cc (h.0, eo), h.1)

-- a row and what follows it
module _ {S T : Type 0} (P P₁ : Places S T) (R Q : Ends S T) (P₂ : End → End → Places S T) (Y : ℕ → Res T) (H : End → T → ℕ → Res T) (gy : Growing Y) (gh : (e : End) (t : T) → Growing (H e t)) (first : (p : List Step) (s : S) (q : List Step) (t : T) → P₁ p s q t → P (First ∷ p) s (First ∷ q) t) (second : (e e' : End) (p : List Step) (s : S) (q : List Step) (t : T) → P₂ e e' p s q t → P (Second e ∷ p) s (Second e' ∷ q) t) where
  pub after_at : (r : Res S) (g : End → S → Res S) (m : ℕ) (c : Res T) → Y m ≡ c → Below P₁ R r c → ((e : End) (s : S) (e' : End) (t : T) → R e s e' t → (k : ℕ) × Below (P₂ e e') Q (g e s) (H e' t k)) → (k : ℕ) × Below P Q (after r g) (after (Y k) (λ e t. H e t k))
  after_at (Spent o) g m c ym h next =
      (m, prefix_trans o (printed (Y m)) _ (subst (λ u. IsPrefix o (printed u)) (sym ym) h) (after_printed (Y m) (λ e t. H e t m)))
  after_at (Paused o s v p) g m (Spent o') ym h next = absurd h
  after_at (Paused o s v p) g m (Paused o' t v' q) ym h next =
      (m, subst (λ u. Below P Q (Paused o s v (First ∷ p)) (after u (λ e t. H e t m))) (sym ym) (h.0, h.1, first p s q t h.2))
  after_at (Paused o s v p) g m (Ended o' t e') ym h next = absurd h
  after_at (Ended o s e) g m (Spent o') ym h next = absurd h
  after_at (Ended o s e) g m (Paused o' t v' q) ym h next = absurd h
  after_at (Ended o s e) g m (Ended o' t e') ym h next =
      let a = next e s e' t h.1 in
      let k = m + a.0 in
      let yk : Y k ≡ Ended o' t e' = subst (λ u. Grow u (Y k)) ym (grows_to Y gy m k (omega arith)) in
      let hk : Below (P₂ e e') Q (g e s) (H e' t k) = below_grow (P₂ e e') Q (g e s) (H e' t a.0) (H e' t k) a.1 (grows_to (H e' t) (gh e' t) a.0 k (omega arith)) in
      (k, subst (λ u. Below P Q (shift o (Second e) (g e s)) (after u (λ e t. H e t k))) (sym yk) (below_shift (P₂ e e') P Q (Second e) (Second e') (second e e') o o' h.0 (g e s) (H e' t k) hk))

-- a turn of a loop, and the next turns
module _ {S T : Type 0} (P : Places S T) (Inv : S → T → Type 0) (Q : Ends S T) (Y : ℕ → Res T) (H : T → ℕ → Res T) (gy : Growing Y) (gh : (t : T) → Growing (H t)) where
  pub turned_at : (r : Res S) (g : S → Res S) (m : ℕ) (c : Res T) → Y m ≡ c → Below P (TurnEnds Inv Q) r c → ((s : S) (t : T) → Inv s t → (k : ℕ) × Below P Q (g s) (H t k)) → (k : ℕ) × Below P Q (turned r g) (turned (Y k) (λ t. H t k))
  turned_at (Spent o) g m c ym h next =
      (m, prefix_trans o (printed (Y m)) _ (subst (λ u. IsPrefix o (printed u)) (sym ym) h) (turned_printed (Y m) (λ t. H t m)))
  turned_at (Paused o s v p) g m (Spent o') ym h next = absurd h
  turned_at (Paused o s v p) g m (Paused o' t v' q) ym h next =
      (m, subst (λ u. Below P Q (Paused o s v p) (turned u (λ t. H t m))) (sym ym) h)
  turned_at (Paused o s v p) g m (Ended o' t e') ym h next = absurd h
  turned_at (Ended o s e) g m (Spent o') ym h next = absurd h
  turned_at (Ended o s e) g m (Paused o' t v' q) ym h next = absurd h
  turned_at (Ended o s (Next v)) g m (Ended o' t (Next w)) ym h next =
      let a = next s t h.1 in
      let k = m + a.0 in
      let yk : Y k ≡ Ended o' t (Next w) = subst (λ u. Grow u (Y k)) ym (grows_to Y gy m k (omega arith)) in
      let hk : Below P Q (g s) (H t k) = below_grow P Q (g s) (H t a.0) (H t k) a.1 (grows_to (H t) (gh t) a.0 k (omega arith)) in
      (k, subst (λ u. Below P Q (before o (g s)) (turned u (λ t. H t k))) (sym yk) (below_before P Q o o' h.0 (g s) (H t k) hk))
  turned_at (Ended o s (Leave i)) g m (Ended o' t (Next w)) ym h next = absurd h.1
  turned_at (Ended o s (Leave zero)) g m (Ended o' t (Leave zero)) ym h next =
      (m, subst (λ u. Below P Q (Ended o s (Next value.None)) (turned u (λ t. H t m))) (sym ym) h)
  turned_at (Ended o s (Leave (suc i))) g m (Ended o' t (Leave (suc j))) ym h next =
      (m, subst (λ u. Below P Q (Ended o s (Leave i)) (turned u (λ t. H t m))) (sym ym) h)
  turned_at (Ended o s (Raised v)) g m (Ended o' t (Raised w)) ym h next =
      (m, subst (λ u. Below P Q (Ended o s (Raised v)) (turned u (λ t. H t m))) (sym ym) h)
  turned_at (Ended o s (Return v)) g m (Ended o' t (Return w)) ym h next =
      (m, subst (λ u. Below P Q (Ended o s (Return v)) (turned u (λ t. H t m))) (sym ym) h)
  turned_at (Ended o s (Stopped k)) g m (Ended o' t (Stopped l)) ym h next =
      (m, subst (λ u. Below P Q (Ended o s (Stopped k)) (turned u (λ t. H t m))) (sym ym) h)
  turned_at (Ended o s Undefined) g m (Ended o' t Undefined) ym h next =
      (m, subst (λ u. Below P Q (Ended o s Undefined) (turned u (λ t. H t m))) (sym ym) h)
  turned_at (Ended o s e) g m (Ended o' t e') ym h next = absurd h.1
