-- Loops correspond where their turns do, whichever leaves end them.
use Rattle.std.proofs.Common.{◌≡◌, ℕ, zero, suc, ◌+◌, ◌≤◌, List, [], Option, Some, None, refl, sym, ap, ◌∙◌, subst, arith}
use Rattle.nu_rows.specs.Rows.{End, Next, Leave, Raised, Return, Stopped, Undefined, Begin, Back, Res, Spent, Paused, Ended, Row, Loop, before, turned, interp, run, does}
use Rattle.nu_run.specs.Runs.{IsPrefix}
use Rattle.nu_run.proofs.Runs.{prefix_trans}
use Rattle.nu_rows.specs.Sim.{printed, Grow, Growing, Places, Ends, Below, other_places, other_ends, Leads, Both, Sim}
use Rattle.nu_rows.proofs.Grow.{prefix_nil, turned_printed, grows_to, below_grow, run_grow, does_grow}
use Rattle.nu_rows.proofs.Leads.{below_map, below_before}
use Rattle.carries_base.specs.Turns.{loop_end, Turned, TurnedEnds}

abbrev pub by : {S : Type 0} → List ℕ → S → Option End → (S → Res S) → Res S
by o s None g = before o (g s)
by o s (Some e) g = Ended o s e

pub turned_is : {S : Type 0} (o : List ℕ) (s : S) (e : End) (g : S → Res S) → turned (Ended o s e) g ≡ by o s (loop_end e) g
turned_is o s (Next v) g = refl
turned_is o s (Leave zero) g = refl
turned_is o s (Leave (suc n)) g = refl
turned_is o s (Raised x) g = refl
turned_is o s (Return v) g = refl
turned_is o s (Stopped kind) g = refl
turned_is o s Undefined g = refl

module _ {S T : Type 0} (P : Places S T) (Inv : S → T → Type 0) (Q : Ends S T) (Y : ℕ → Res T) (H : T → ℕ → Res T) (gy : Growing Y) (gh : (t : T) → Growing (H t)) where
  ended_at : (o o' : List ℕ) (s : S) (t : T) (a b : Option End) (g : S → Res S) (m : ℕ) → o ≡ o' → Turned Inv Q a s b t → ((s : S) (t : T) → Inv s t → (k : ℕ) × Below P Q (g s) (H t k)) → (k : ℕ) × ((m ≤ k) × Below P Q (by o s a g) (by o' t b (λ t. H t k)))
  ended_at o o' s t None None g m eo h next =
      let a = next s t h in
      let k = m + a.0 in
      let hk : Below P Q (g s) (H t k) = below_grow P Q (g s) (H t a.0) (H t k) a.1 (grows_to (H t) (gh t) a.0 k (omega arith)) in
      (k, (omega arith, below_before P Q o o' eo (g s) (H t k) hk))
  ended_at o o' s t None (Some e') g m eo h next = absurd h
  ended_at o o' s t (Some e) None g m eo h next = absurd h
  ended_at o o' s t (Some e) (Some e') g m eo h next = (m, (omega arith, (eo, h)))

  pub turned_at : (r : Res S) (g : S → Res S) (m : ℕ) (c : Res T) → Y m ≡ c → Below P (TurnedEnds Inv Q) r c → ((s : S) (t : T) → Inv s t → (k : ℕ) × Below P Q (g s) (H t k)) → (k : ℕ) × Below P Q (turned r g) (turned (Y k) (λ t. H t k))
  turned_at (Spent o) g m c ym h next =
      (m, prefix_trans o (printed (Y m)) _ (subst (λ u. IsPrefix o (printed u)) (sym ym) h) (turned_printed (Y m) (λ t. H t m)))
  turned_at (Paused o s v p) g m (Spent o') ym h next = absurd h
  turned_at (Paused o s v p) g m (Paused o' t v' q) ym h next =
      (m, subst (λ u. Below P Q (Paused o s v p) (turned u (λ t. H t m))) (sym ym) h)
  turned_at (Paused o s v p) g m (Ended o' t e') ym h next = absurd h
  turned_at (Ended o s e) g m (Spent o') ym h next = absurd h
  turned_at (Ended o s e) g m (Paused o' t v' q) ym h next = absurd h
  turned_at (Ended o s e) g m (Ended o' t e') ym h next =
      let a = ended_at o o' s t (loop_end e) (loop_end e') g m h.0 h.1 next in
      let k = a.0 in
      let yk : Y k ≡ Ended o' t e' = subst (λ u. Grow u (Y k)) ym (grows_to Y gy m k a.1.0) in (
        k,
        subst (λ u. Below P Q u (turned (Y k) (λ t. H t k))) (sym (turned_is o s e g))
            (subst (λ u. Below P Q (by o s (loop_end e) g) u) (sym (ap (λ u. turned u (λ t. H t k)) yk ∙ turned_is o' t e' (λ t. H t k))) a.1.1),
      )

flip_turned : {S T : Type 0} (Inv : S → T → Type 0) (Q : Ends S T) (a : Option End) (s : S) (b : Option End) (t : T) → Turned Inv Q a s b t → Turned (λ t s. Inv s t) (other_ends Q) b t a s
flip_turned Inv Q None s None t h = h
flip_turned Inv Q None s (Some e') t h = absurd h
flip_turned Inv Q (Some e) s None t h = absurd h
flip_turned Inv Q (Some e) s (Some e') t h = h

-- all turns, in one direction
leads : (L : ℕ) {S T I J : Type 0} (rows : I → Row S I) (cols : J → Row T J) (P : Places S T) (Inv : S → T → Type 0) (Q : Ends S T) (i : I) (r : Row S I) (j : J) (c : Row T J) → rows i ≡ Loop r i → cols j ≡ Loop c j → ((s : S) (t : T) → Inv s t → Leads L P (TurnedEnds Inv Q) (does rows r Begin s) (does cols c Begin t)) → (n : ℕ) → n ≤ L → (s : S) (t : T) → Inv s t → (m : ℕ) × Below P Q (run rows n i Begin s) (run cols m j Begin t)
leads L rows cols P Inv Q i r j c ei ej turn zero le s t inv = (0, prefix_nil [])
leads L rows cols P Inv Q i r j c ei ej turn (suc n) le s t inv =
    let less : n ≤ L = omega arith in
    let a = turn s t inv n less in
    let b = turned_at P Inv Q (does cols c Begin t) (λ u m. run cols m j Begin u) (does_grow cols c Begin t) (λ u m. run_grow cols m j Begin u) (does rows r Begin s n) (λ u. run rows n i Begin u) a.0 (does cols c Begin t a.0) refl a.1 (λ s' t' h. leads L rows cols P Inv Q i r j c ei ej turn n less s' t' h) in
    (suc b.0, subst (λ u. Below P Q (interp (run rows n) u Begin s) (run cols (suc b.0) j Begin t)) (sym ei) (subst (λ u. Below P Q (interp (run rows n) (Loop r i) Begin s) (interp (run cols b.0) u Begin t)) (sym ej) b.1))

module _ {S T I J : Type 0} (rows : I → Row S I) (cols : J → Row T J) (L : ℕ) where
  turns_at : (P : Places S T) (Inv : S → T → Type 0) (Q : Ends S T) (i : I) (r : Row S I) (j : J) (c : Row T J) → rows i ≡ Loop r i → cols j ≡ Loop c j → Sim rows cols L P Inv (TurnedEnds Inv Q) r c → (X : ℕ → Res S) (Y : ℕ → Res T) → Growing X → Growing Y → Both L P (TurnedEnds Inv Q) X Y → Both L P Q (λ n. turned (X n) (λ s. run rows n i Begin s)) (λ n. turned (Y n) (λ t. run cols n j Begin t))
  turns_at P Inv Q i r j c ei ej h X Y gx gy b = record {
    there = λ n le. let a = b.there n le in turned_at P Inv Q Y (λ u m. run cols m j Begin u) gy (λ u m. run_grow cols m j Begin u) (X n) (λ u. run rows n i Begin u) a.0 (Y a.0) refl a.1 (λ s t x. leads L rows cols P Inv Q i r j c ei ej (λ s t x. (h.begins s t x).there) n le s t x);
    back = λ n le. let a = b.back n le in turned_at (other_places P) (λ t s. Inv s t) (other_ends Q) X (λ u m. run rows m i Begin u) gx (λ u m. run_grow rows m i Begin u) (Y n) (λ u. run cols n j Begin u) a.0 (X a.0) refl (turn (Y n) (X a.0) a.1) (λ t s x. leads L cols rows (other_places P) (λ t s. Inv s t) (other_ends Q) j c i r ej ei (λ t s x m less. let d = (h.begins s t x).back m less in (d.0, turn (does cols c Begin t m) (does rows r Begin s d.0) d.1)) n le t s x);
  }
    where
      turn : (y : Res T) (x : Res S) → Below (other_places P) (other_ends (TurnedEnds Inv Q)) y x → Below (other_places P) (TurnedEnds (λ t s. Inv s t) (other_ends Q)) y x
      turn y x z = below_map (other_places P) (other_places P) (other_ends (TurnedEnds Inv Q)) (TurnedEnds (λ t s. Inv s t) (other_ends Q)) (λ q t p s x. x) (λ e' t e s w. flip_turned Inv Q (loop_end e) s (loop_end e') t w) y x z

  pub turns_both : (P : Places S T) (Inv : S → T → Type 0) (Q : Ends S T) (i : I) (r : Row S I) (j : J) (c : Row T J) → rows i ≡ Loop r i → cols j ≡ Loop c j → Sim rows cols L P Inv (TurnedEnds Inv Q) r c → Sim rows cols L P Inv Q (Loop r i) (Loop c j)
  turns_both P Inv Q i r j c ei ej h = record {
    begins = λ s t pre. turns_at P Inv Q i r j c ei ej h (does rows r Begin s) (does cols c Begin t) (does_grow rows r Begin s) (does_grow cols c Begin t) (h.begins s t pre);
    goes_on = λ p q how s t x. turns_at P Inv Q i r j c ei ej h (does rows r (Back p how) s) (does cols c (Back q how) t) (does_grow rows r (Back p how) s) (does_grow cols c (Back q how) t) (h.goes_on p q how s t x);
  }
