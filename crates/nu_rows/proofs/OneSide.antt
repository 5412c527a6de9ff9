-- What only the right side does: a silent operation before a row, and a silent end after it.
use Rattle.std.proofs.Common.{◌≡◌, ℕ, ◌+◌, List, [], ◌∷◌, ◌++◌, refl, sym, ap, ◌∙◌, subst, arith, append-nil}
use Rattle.nu_rows.specs.Rows.{End, Step, First, Second, How, Begin, Back, Res, Spent, Paused, Ended, Effect, Row, Act, Then, shift, after, does}
use Rattle.nu_run.specs.Runs.{IsPrefix}
use Rattle.nu_run.proofs.Runs.{prefix_trans}
use Rattle.nu_rows.specs.Sim.{printed, Grow, Growing, Places, Ends, Below, other_places, other_ends, Both, Sim}
use Rattle.nu_rows.specs.Matching.{ReadPlaces, TidyPlaces, Silent}
use Rattle.nu_rows.proofs.Grow.{prefix_behind, shift_printed, after_printed, grows_to, does_grow}

right_shift : {S T : Type 0} (P P' : Places S T) (Q : Ends S T) (y : Step) → ((p : List Step) (s : S) (q : List Step) (t : T) → P p s q t → P' p s (y ∷ q) t) → (o : List ℕ) → o ≡ [] → (r : Res S) (c : Res T) → Below P Q r c → Below P' Q r (shift o y c)
right_shift P P' Q y f o eo (Spent a) c h = subst (λ u. IsPrefix a u) (sym (shift_printed o y c ∙ ap (λ u. u ++ printed c) eo)) h
right_shift P P' Q y f o eo (Paused a s v p) (Spent b) h = absurd h
right_shift P P' Q y f o eo (Paused a s v p) (Paused b t w q) h = (h.0 ∙ ap (λ u. u ++ b) (sym eo), h.1, f p s q t h.2)
right_shift P P' Q y f o eo (Paused a s v p) (Ended b t e') h = absurd h
right_shift P P' Q y f o eo (Ended a s e) (Spent b) h = absurd h
right_shift P P' Q y f o eo (Ended a s e) (Paused b t w q) h = absurd h
right_shift P P' Q y f o eo (Ended a s e) (Ended b t e') h = (h.0 ∙ ap (λ u. u ++ b) (sym eo), h.1)

left_shift : {S T : Type 0} (P P' : Places S T) (Q : Ends S T) (x : Step) → ((p : List Step) (s : S) (q : List Step) (t : T) → P p s q t → P' (x ∷ p) s q t) → (o : List ℕ) → o ≡ [] → (r : Res S) (c : Res T) → Below P Q r c → Below P' Q (shift o x r) c
left_shift P P' Q x f o eo (Spent a) c h = subst (λ u. IsPrefix (u ++ a) (printed c)) (sym eo) h
left_shift P P' Q x f o eo (Paused a s v p) (Spent b) h = absurd h
left_shift P P' Q x f o eo (Paused a s v p) (Paused b t w q) h = (ap (λ u. u ++ a) eo ∙ h.0, h.1, f p s q t h.2)
left_shift P P' Q x f o eo (Paused a s v p) (Ended b t e') h = absurd h
left_shift P P' Q x f o eo (Ended a s e) (Spent b) h = absurd h
left_shift P P' Q x f o eo (Ended a s e) (Paused b t w q) h = absurd h
left_shift P P' Q x f o eo (Ended a s e) (Ended b t e') h = (ap (λ u. u ++ a) eo ∙ h.0, h.1)

module _ {S T : Type 0} (P₁ : Places S T) (R Q : Ends S T) (Y : ℕ → Res T) (H : End → T → ℕ → Res T) (gy : Growing Y) (gh : (e : End) (t : T) → Growing (H e t)) (done : (e : End) (s : S) (e' : End) (t : T) → R e s e' t → (e'' : End) × (t' : T) × Silent (H e' t) e'' t' × Q e s e'' t') where
  tidy_there : (r : Res S) (m : ℕ) (c : Res T) → Y m ≡ c → Below P₁ R r c → (k : ℕ) × Below (TidyPlaces P₁) Q r (after (Y k) (λ e t. H e t k))
  tidy_there (Spent o) m c ym h = (m, prefix_trans o (printed (Y m)) _ (subst (λ u. IsPrefix o (printed u)) (sym ym) h) (after_printed (Y m) (λ e t. H e t m)))
  tidy_there (Paused o s v p) m (Spent o') ym h = absurd h
  tidy_there (Paused o s v p) m (Paused o' t w q) ym h = (m, subst (λ u. Below (TidyPlaces P₁) Q (Paused o s v p) (after u (λ e t. H e t m))) (sym ym) h)
  tidy_there (Paused o s v p) m (Ended o' t e') ym h = absurd h
  tidy_there (Ended o s e) m (Spent o') ym h = absurd h
  tidy_there (Ended o s e) m (Paused o' t w q) ym h = absurd h
  tidy_there (Ended o s e) m (Ended o' t e') ym h =
      let d = done e s e' t h.1 in
      let k = m + d.2.bound in
      let yk : Y k ≡ Ended o' t e' = subst (λ u. Grow u (Y k)) ym (grows_to Y gy m k (omega arith)) in
      let hk : H e' t k ≡ Ended [] d.1 d.0 = subst (λ u. Grow u (H e' t k)) d.2.by (grows_to (H e' t) (gh e' t) d.2.bound k (omega arith)) in
      (k, subst (λ u. Below (TidyPlaces P₁) Q (Ended o s e) (after u (λ e t. H e t k))) (sym yk) (subst (λ u. Below (TidyPlaces P₁) Q (Ended o s e) (shift o' (Second e') u)) (sym hk) (h.0 ∙ sym (append-nil o'), d.3)))

  tidy_end : (o o' : List ℕ) (e : End) (s : S) (e' e'' : End) (t' : T) → o ≡ o' → Q e s e'' t' → (z : Res T) → Grow z (Ended [] t' e'') → Below (other_places (TidyPlaces P₁)) (other_ends Q) (shift o (Second e') z) (Ended o' s e)
  tidy_end o o' e s e' e'' t' eo q (Spent a) g = subst (λ u. IsPrefix (o ++ a) u) (append-nil o ∙ eo) (prefix_behind o a [] g)
  tidy_end o o' e s e' e'' t' eo q (Paused a t w p) g = cc
  tidy_end o o' e s e' e'' t' eo q (Ended a t x) g =
      subst (λ u. Below (other_places (TidyPlaces P₁)) (other_ends Q) (shift o (Second e') u) (Ended o' s e)) g (append-nil o ∙ eo, q)

  tidy_back : (r : Res S) (c : Res T) (n : ℕ) → Below (other_places P₁) (other_ends R) c r → Below (other_places (TidyPlaces P₁)) (other_ends Q) (after c (λ e t. H e t n)) r
  tidy_back r (Spent o) n h = h
  tidy_back (Spent o') (Paused o t w q) n h = absurd h
  tidy_back (Paused o' s v p) (Paused o t w q) n h = h
  tidy_back (Ended o' s e) (Paused o t w q) n h = absurd h
  tidy_back (Spent o') (Ended o t e') n h = absurd h
  tidy_back (Paused o' s v p) (Ended o t e') n h = absurd h
  tidy_back (Ended o' s e) (Ended o t e') n h =
      let d = done e s e' t h.1 in
      let k = n + d.2.bound in
      let hk : H e' t k ≡ Ended [] d.1 d.0 = subst (λ u. Grow u (H e' t k)) d.2.by (grows_to (H e' t) (gh e' t) d.2.bound k (omega arith)) in
      tidy_end o o' e s e' d.0 d.1 h.0 d.3 (H e' t n) (subst (λ u. Grow (H e' t n) u) hk (grows_to (H e' t) (gh e' t) n k (omega arith)))

module _ {S T I J : Type 0} (rows : I → Row S I) (cols : J → Row T J) (L : ℕ) where
  read_goes_on : (P₂ : End → Places S T) (Mid : End → S → T → Type 0) (Q : Ends S T) (r : Row S I) (f : T → Effect T) (D : End → Row T J) → ((e' : End) → Sim rows cols L (P₂ e') (Mid e') Q r (D e')) → (p q : List Step) (how : How) (s : S) (t : T) → ReadPlaces P₂ p s q t → Both L (ReadPlaces P₂) Q (does rows r (Back p how) s) (does cols (Then (Act f) D) (Back q how) t)
  read_goes_on P₂ Mid Q r f D next p [] how s t x = absurd x
  read_goes_on P₂ Mid Q r f D next p (First ∷ q) how s t x = absurd x
  read_goes_on P₂ Mid Q r f D next p (Second e' ∷ q) how s t x =
      let b = (next e').goes_on p q how s t x in
      record {
        there = λ n le. let a = b.there n le in (a.0, right_shift (P₂ e') (ReadPlaces P₂) Q (Second e') (λ p s q t x. x) [] refl _ _ a.1);
        back = λ n le. let a = b.back n le in (a.0, left_shift (other_places (P₂ e')) (other_places (ReadPlaces P₂)) (other_ends Q) (Second e') (λ q t p s x. x) [] refl _ _ a.1);
      }

  -- first a silent operation on the right
  pub read_right : (P₂ : End → Places S T) (Pre : S → T → Type 0) (Mid : End → S → T → Type 0) (Q : Ends S T) (r : Row S I) (f : T → Effect T) (D : End → Row T J) → ((s : S) (t : T) → Pre s t → ((f t).out ≡ []) × Mid (f t).end s (f t).state) → ((e' : End) → Sim rows cols L (P₂ e') (Mid e') Q r (D e')) → Sim rows cols L (ReadPlaces P₂) Pre Q r (Then (Act f) D)
  read_right P₂ Pre Mid Q r f D silent next = record {
    begins = λ s t pre.
        let z = silent s t pre in
        let b = (next (f t).end).begins s (f t).state z.1 in
        record {
          there = λ n le. let a = b.there n le in (a.0, right_shift (P₂ (f t).end) (ReadPlaces P₂) Q (Second (f t).end) (λ p s q t x. x) (f t).out z.0 _ _ a.1);
          back = λ n le. let a = b.back n le in (a.0, left_shift (other_places (P₂ (f t).end)) (other_places (ReadPlaces P₂)) (other_ends Q) (Second (f t).end) (λ q t p s x. x) (f t).out z.0 _ _ a.1);
        };
    goes_on = λ p q how s t x. read_goes_on P₂ Mid Q r f D next p q how s t x;
  }

  tidy_goes_on : (P₁ : Places S T) (Pre : S → T → Type 0) (R Q : Ends S T) (r : Row S I) (c : Row T J) (D : End → Row T J) → ((e : End) (s : S) (e' : End) (t : T) → R e s e' t → (e'' : End) × (t' : T) × Silent (does cols (D e') Begin t) e'' t' × Q e s e'' t') → Sim rows cols L P₁ Pre R r c → (p q : List Step) (how : How) (s : S) (t : T) → TidyPlaces P₁ p s q t → Both L (TidyPlaces P₁) Q (does rows r (Back p how) s) (does cols (Then c D) (Back q how) t)
  tidy_goes_on P₁ Pre R Q r c D done h p [] how s t x = absurd x
  tidy_goes_on P₁ Pre R Q r c D done h p (First ∷ q) how s t x =
      let b = h.goes_on p q how s t x in
      record {
        there = λ n le. let a = b.there n le in tidy_there P₁ R Q (does cols c (Back q how) t) (λ e t m. does cols (D e) Begin t m) (does_grow cols c (Back q how) t) (λ e t. does_grow cols (D e) Begin t) done _ a.0 _ refl a.1;
        back = λ n le. let a = b.back n le in (a.0, tidy_back P₁ R Q (does cols c (Back q how) t) (λ e t m. does cols (D e) Begin t m) (does_grow cols c (Back q how) t) (λ e t. does_grow cols (D e) Begin t) done _ _ n a.1);
      }
  tidy_goes_on P₁ Pre R Q r c D done h p (Second e' ∷ q) how s t x = absurd x

  -- and a silent end on the right
  pub tidy_right : (P₁ : Places S T) (Pre : S → T → Type 0) (R Q : Ends S T) (r : Row S I) (c : Row T J) (D : End → Row T J) → ((e : End) (s : S) (e' : End) (t : T) → R e s e' t → (e'' : End) × (t' : T) × Silent (does cols (D e') Begin t) e'' t' × Q e s e'' t') → Sim rows cols L P₁ Pre R r c → Sim rows cols L (TidyPlaces P₁) Pre Q r (Then c D)
  tidy_right P₁ Pre R Q r c D done h = record {
    begins = λ s t pre.
        let b = h.begins s t pre in
        record {
          there = λ n le. let a = b.there n le in tidy_there P₁ R Q (does cols c Begin t) (λ e t m. does cols (D e) Begin t m) (does_grow cols c Begin t) (λ e t. does_grow cols (D e) Begin t) done _ a.0 _ refl a.1;
          back = λ n le. let a = b.back n le in (a.0, tidy_back P₁ R Q (does cols c Begin t) (λ e t m. does cols (D e) Begin t m) (does_grow cols c Begin t) (λ e t. does_grow cols (D e) Begin t) done _ _ n a.1);
        };
    goes_on = λ p q how s t x. tidy_goes_on P₁ Pre R Q r c D done h p q how s t x;
  }
