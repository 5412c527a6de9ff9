-- Each combinator respects correspondence, in both directions.
use Rattle.std.proofs.Common.{◌≡◌, ℕ, zero, suc, ◌≤◌, List, [], ◌∷◌, refl, sym, subst, arith}
use Rattle.nu_value.specs.declared.value.Value.{Value}
use Rattle.nu_rows.specs.Rows.{End, Next, Leave, Raised, Return, Stopped, Undefined, Step, First, Second, How, Start, Begin, Back, Res, Spent, Paused, Ended, Effect, Row, Act, Yld, Part, Then, Loop, Sub, Left, AtPause, AtEnd, Entry, Into, Instead, left_by, entered, shift, after, turned, sent, interp, run, does}
use Rattle.nu_run.proofs.Runs.{prefix_trans}
use Rattle.nu_rows.specs.Sim.{printed, Growing, Places, Ends, Below, other_places, other_ends, Leads, Both, Sim}
use Rattle.nu_rows.specs.Matching.{ThenPlaces, TurnEnds, Entries, Corresponding, Acts, PausePlace}
use Rattle.nu_rows.proofs.Grow.{prefix_nil, left_printed, run_grow, does_grow}
use Rattle.nu_rows.proofs.Leads.{below_map, below_shift, after_at, turned_at}

flip_turn : {S T : Type 0} (Inv : S → T → Type 0) (Q : Ends S T) (e' : End) (t : T) (e : End) (s : S) → TurnEnds Inv Q e s e' t → TurnEnds (λ t s. Inv s t) (other_ends Q) e' t e s
flip_turn Inv Q (Next w) t (Next v) s h = h
flip_turn Inv Q (Leave j) t (Next v) s h = absurd h
flip_turn Inv Q (Leave zero) t (Leave zero) s h = h
flip_turn Inv Q (Leave (suc j)) t (Leave (suc i)) s h = h
flip_turn Inv Q (Raised w) t (Raised v) s h = h
flip_turn Inv Q (Return w) t (Return v) s h = h
flip_turn Inv Q (Stopped l) t (Stopped k) s h = h
flip_turn Inv Q Undefined t Undefined s h = h
flip_turn Inv Q e' t e s h = absurd h

-- one more of the bound changes nothing
tick_left : (L : ℕ) {S T I : Type 0} (rows : I → Row S I) (P : Places S T) (Q : Ends S T) (i : I) (start : Start) (s : S) (Y : ℕ → Res T) → Leads L P Q (does rows (rows i) start s) Y → Leads L P Q (does rows (Part i) start s) Y
tick_left L rows P Q i start s Y h zero le = (0, prefix_nil (printed (Y 0)))
tick_left L rows P Q i start s Y h (suc n) le = h n (omega arith)

tick_right : (L : ℕ) {S T J : Type 0} (cols : J → Row T J) (P : Places S T) (Q : Ends S T) (j : J) (start : Start) (t : T) (X : ℕ → Res S) → Leads L P Q X (does cols (cols j) start t) → Leads L P Q X (does cols (Part j) start t)
tick_right L cols P Q j start t X h n le = let a = h n le in (suc a.0, a.1)

shift_leads : (L : ℕ) {S T : Type 0} (P P' : Places S T) (Q : Ends S T) (x y : Step) → ((p : List Step) (s : S) (q : List Step) (t : T) → P p s q t → P' (x ∷ p) s (y ∷ q) t) → (X : ℕ → Res S) (Y : ℕ → Res T) → Leads L P Q X Y → Leads L P' Q (λ n. shift [] x (X n)) (λ n. shift [] y (Y n))
shift_leads L P P' Q x y f X Y h n le = let a = h n le in (a.0, below_shift P P' Q x y f [] [] refl (X n) (Y a.0) a.1)

-- all turns of a loop, in one direction
loop_leads : (L : ℕ) {S T I J : Type 0} (rows : I → Row S I) (cols : J → Row T J) (P : Places S T) (Inv : S → T → Type 0) (Q : Ends S T) (i : I) (r : Row S I) (j : J) (c : Row T J) → rows i ≡ Loop r i → cols j ≡ Loop c j → ((s : S) (t : T) → Inv s t → Leads L P (TurnEnds Inv Q) (does rows r Begin s) (does cols c Begin t)) → (n : ℕ) → n ≤ L → (s : S) (t : T) → Inv s t → (m : ℕ) × Below P Q (run rows n i Begin s) (run cols m j Begin t)
loop_leads L rows cols P Inv Q i r j c ei ej turn zero le s t inv = (0, prefix_nil [])
loop_leads L rows cols P Inv Q i r j c ei ej turn (suc n) le s t inv =
    let less : n ≤ L = omega arith in
    let a = turn s t inv n less in
    let b = turned_at P Inv Q (does cols c Begin t) (λ u m. run cols m j Begin u) (does_grow cols c Begin t) (λ u m. run_grow cols m j Begin u) (does rows r Begin s n) (λ u. run rows n i Begin u) a.0 (does cols c Begin t a.0) refl a.1 (λ s' t' h. loop_leads L rows cols P Inv Q i r j c ei ej turn n less s' t' h) in
    (suc b.0, subst (λ u. Below P Q (interp (run rows n) u Begin s) (run cols (suc b.0) j Begin t)) (sym ei) (subst (λ u. Below P Q (interp (run rows n) (Loop r i) Begin s) (interp (run cols b.0) u Begin t)) (sym ej) b.1))

flip_acts : {S T : Type 0} (Q : Ends S T) (f : Effect S) (g : Effect T) → Acts Q f g → Acts (other_ends Q) g f
flip_acts Q f g a = record { outs = sym a.outs; ends = a.ends }

-- a body that is run, in one direction
sub_there : {S T : Type 0} (P Pb : Places S T) (Q Qb : Ends S T) (leave : Left S → Effect S) (leave' : Left T → Effect T) → ((p : List Step) (s : S) (q : List Step) (t : T) (v : Value) → Pb p s q t → Acts Q (leave (AtPause s v p)) (leave' (AtPause t v q))) → ((e : End) (s : S) (e' : End) (t : T) → Qb e s e' t → Acts Q (leave (AtEnd s e)) (leave' (AtEnd t e'))) → (r : Res S) (c : Res T) → Below Pb Qb r c → Below P Q (left_by r leave) (left_by c leave')
sub_there P Pb Q Qb leave leave' hp he (Spent o) c h = prefix_trans o (printed c) _ h (left_printed c leave')
sub_there P Pb Q Qb leave leave' hp he (Paused o s v p) (Spent o') h = absurd h
sub_there P Pb Q Qb leave leave' hp he (Paused o s v p) (Paused o' t w q) h =
    let d = hp p s q t v h.2 in
    subst (λ u. Below P Q (left_by (Paused o s v p) leave) (left_by (Paused o' t u q) leave')) h.1 (cc (h.0, d.outs), d.ends)
sub_there P Pb Q Qb leave leave' hp he (Paused o s v p) (Ended o' t e') h = absurd h
sub_there P Pb Q Qb leave leave' hp he (Ended o s e) (Spent o') h = absurd h
sub_there P Pb Q Qb leave leave' hp he (Ended o s e) (Paused o' t w q) h = absurd h
sub_there P Pb Q Qb leave leave' hp he (Ended o s e) (Ended o' t e') h =
    let d = he e s e' t h.1 in (cc (h.0, d.outs), d.ends)

module _ {S T I J : Type 0} (rows : I → Row S I) (cols : J → Row T J) (L : ℕ) where
  pub both_map : (P P' : Places S T) (Q Q' : Ends S T) → ((p : List Step) (s : S) (q : List Step) (t : T) → P p s q t → P' p s q t) → ((e : End) (s : S) (e' : End) (t : T) → Q e s e' t → Q' e s e' t) → (X : ℕ → Res S) (Y : ℕ → Res T) → Both L P Q X Y → Both L P' Q' X Y
  both_map P P' Q Q' f g X Y h = record {
    there = λ n le. let a = h.there n le in (a.0, below_map P P' Q Q' f g (X n) (Y a.0) a.1);
    back = λ n le. let a = h.back n le in (a.0, below_map (other_places P) (other_places P') (other_ends Q) (other_ends Q') (λ q t p s. f p s q t) (λ e' t e s. g e s e' t) (Y n) (X a.0) a.1);
  }

  pub sim_map : (P : Places S T) (Pre Pre' : S → T → Type 0) (Q Q' : Ends S T) (r : Row S I) (c : Row T J) → ((s : S) (t : T) → Pre' s t → Pre s t) → ((e : End) (s : S) (e' : End) (t : T) → Q e s e' t → Q' e s e' t) → Sim rows cols L P Pre Q r c → Sim rows cols L P Pre' Q' r c
  sim_map P Pre Pre' Q Q' r c f g h = record {
    begins = λ s t pre. both_map P P Q Q' (λ p s q t x. x) g _ _ (h.begins s t (f s t pre));
    goes_on = λ p q how s t x. both_map P P Q Q' (λ p s q t x. x) g _ _ (h.goes_on p q how s t x);
  }

  -- a part, on the left and on the right
  pub part_left : (P : Places S T) (Pre : S → T → Type 0) (Q : Ends S T) (i : I) (c : Row T J) → Sim rows cols L P Pre Q (rows i) c → Sim rows cols L P Pre Q (Part i) c
  part_left P Pre Q i c h = record {
    begins = λ s t pre. let b = h.begins s t pre in record { there = tick_left L rows P Q i Begin s _ b.there; back = tick_right L rows (other_places P) (other_ends Q) i Begin s _ b.back };
    goes_on = λ p q how s t x. let b = h.goes_on p q how s t x in record { there = tick_left L rows P Q i (Back p how) s _ b.there; back = tick_right L rows (other_places P) (other_ends Q) i (Back p how) s _ b.back };
  }

  pub part_right : (P : Places S T) (Pre : S → T → Type 0) (Q : Ends S T) (r : Row S I) (j : J) → Sim rows cols L P Pre Q r (cols j) → Sim rows cols L P Pre Q r (Part j)
  part_right P Pre Q r j h = record {
    begins = λ s t pre. let b = h.begins s t pre in record { there = tick_right L cols P Q j Begin t _ b.there; back = tick_left L cols (other_places P) (other_ends Q) j Begin t _ b.back };
    goes_on = λ p q how s t x. let b = h.goes_on p q how s t x in record { there = tick_right L cols P Q j (Back q how) t _ b.there; back = tick_left L cols (other_places P) (other_ends Q) j (Back q how) t _ b.back };
  }

  -- two operations
  pub act_both : (P : Places S T) (Pre : S → T → Type 0) (Q : Ends S T) (f : S → Effect S) (g : T → Effect T) → ((p : List Step) (s : S) (q : List Step) (t : T) → ¬ P p s q t) → ((s : S) (t : T) → Pre s t → Acts Q (f s) (g t)) → Sim rows cols L P Pre Q (Act f) (Act g)
  act_both P Pre Q f g none h = record {
    begins = λ s t pre. let a = h s t pre in record { there = λ n le. (0, (a.outs, a.ends)); back = λ n le. (0, (sym a.outs, a.ends)) };
    goes_on = λ p q how s t x. absurd (none p s q t x);
  }

  -- a row and what follows it
  then_begins : (P₁ : Places S T) (P₂ : End → End → Places S T) (R Q : Ends S T) (K : End → Row S I) (D : End → Row T J) → ((e e' : End) → Sim rows cols L (P₂ e e') (λ s t. R e s e' t) Q (K e) (D e')) → (X : ℕ → Res S) (Y : ℕ → Res T) → Growing X → Growing Y → Both L P₁ R X Y → Both L (ThenPlaces P₁ P₂) Q (λ n. after (X n) (λ e s. does rows (K e) Begin s n)) (λ n. after (Y n) (λ e t. does cols (D e) Begin t n))
  then_begins P₁ P₂ R Q K D next X Y gx gy h = record {
    there = λ n le. let a = h.there n le in after_at (ThenPlaces P₁ P₂) P₁ R Q P₂ Y (λ e t m. does cols (D e) Begin t m) gy (λ e t. does_grow cols (D e) Begin t) (λ p s q t x. x) (λ e e' p s q t x. x) (X n) (λ e s. does rows (K e) Begin s n) a.0 (Y a.0) refl a.1 (λ e s e' t x. ((next e e').begins s t x).there n le);
    back = λ n le. let a = h.back n le in after_at (other_places (ThenPlaces P₁ P₂)) (other_places P₁) (other_ends R) (other_ends Q) (λ e' e. other_places (P₂ e e')) X (λ e s m. does rows (K e) Begin s m) gx (λ e s. does_grow rows (K e) Begin s) (λ q t p s x. x) (λ e' e q t p s x. x) (Y n) (λ e t. does cols (D e) Begin t n) a.0 (X a.0) refl a.1 (λ e' t e s x. ((next e e').begins s t x).back n le);
  }

  then_goes_on : (P₁ : Places S T) (P₂ : End → End → Places S T) (Pre : S → T → Type 0) (R Q : Ends S T) (r : Row S I) (c : Row T J) (K : End → Row S I) (D : End → Row T J) → Sim rows cols L P₁ Pre R r c → ((e e' : End) → Sim rows cols L (P₂ e e') (λ s t. R e s e' t) Q (K e) (D e')) → (p q : List Step) (how : How) (s : S) (t : T) → ThenPlaces P₁ P₂ p s q t → Both L (ThenPlaces P₁ P₂) Q (does rows (Then r K) (Back p how) s) (does cols (Then c D) (Back q how) t)
  then_goes_on P₁ P₂ Pre R Q r c K D h next [] q how s t x = absurd x
  then_goes_on P₁ P₂ Pre R Q r c K D h next (First ∷ p) [] how s t x = absurd x
  then_goes_on P₁ P₂ Pre R Q r c K D h next (First ∷ p) (First ∷ q) how s t x =
      then_begins P₁ P₂ R Q K D next (does rows r (Back p how) s) (does cols c (Back q how) t) (does_grow rows r (Back p how) s) (does_grow cols c (Back q how) t) (h.goes_on p q how s t x)
  then_goes_on P₁ P₂ Pre R Q r c K D h next (First ∷ p) (Second e' ∷ q) how s t x = absurd x
  then_goes_on P₁ P₂ Pre R Q r c K D h next (Second e ∷ p) [] how s t x = absurd x
  then_goes_on P₁ P₂ Pre R Q r c K D h next (Second e ∷ p) (First ∷ q) how s t x = absurd x
  then_goes_on P₁ P₂ Pre R Q r c K D h next (Second e ∷ p) (Second e' ∷ q) how s t x =
      let b = (next e e').goes_on p q how s t x in
      record {
        there = shift_leads L (P₂ e e') (ThenPlaces P₁ P₂) Q (Second e) (Second e') (λ p s q t x. x) _ _ b.there;
        back = shift_leads L (other_places (P₂ e e')) (other_places (ThenPlaces P₁ P₂)) (other_ends Q) (Second e') (Second e) (λ q t p s x. x) _ _ b.back;
      }

  pub then_both : (P₁ : Places S T) (P₂ : End → End → Places S T) (Pre : S → T → Type 0) (R Q : Ends S T) (r : Row S I) (c : Row T J) (K : End → Row S I) (D : End → Row T J) → Sim rows cols L P₁ Pre R r c → ((e e' : End) → Sim rows cols L (P₂ e e') (λ s t. R e s e' t) Q (K e) (D e')) → Sim rows cols L (ThenPlaces P₁ P₂) Pre Q (Then r K) (Then c D)
  then_both P₁ P₂ Pre R Q r c K D h next = record {
    begins = λ s t pre. then_begins P₁ P₂ R Q K D next (does rows r Begin s) (does cols c Begin t) (does_grow rows r Begin s) (does_grow cols c Begin t) (h.begins s t pre);
    goes_on = λ p q how s t x. then_goes_on P₁ P₂ Pre R Q r c K D h next p q how s t x;
  }

  -- a loop
  loop_both_at : (P : Places S T) (Inv : S → T → Type 0) (Q : Ends S T) (i : I) (r : Row S I) (j : J) (c : Row T J) → rows i ≡ Loop r i → cols j ≡ Loop c j → Sim rows cols L P Inv (TurnEnds Inv Q) r c → (X : ℕ → Res S) (Y : ℕ → Res T) → Growing X → Growing Y → Both L P (TurnEnds Inv Q) X Y → Both L P Q (λ n. turned (X n) (λ s. run rows n i Begin s)) (λ n. turned (Y n) (λ t. run cols n j Begin t))
  loop_both_at P Inv Q i r j c ei ej h X Y gx gy b = record {
    there = λ n le. let a = b.there n le in turned_at P Inv Q Y (λ u m. run cols m j Begin u) gy (λ u m. run_grow cols m j Begin u) (X n) (λ u. run rows n i Begin u) a.0 (Y a.0) refl a.1 (λ s t x. loop_leads L rows cols P Inv Q i r j c ei ej (λ s t x. (h.begins s t x).there) n le s t x);
    back = λ n le. let a = b.back n le in turned_at (other_places P) (λ t s. Inv s t) (other_ends Q) X (λ u m. run rows m i Begin u) gx (λ u m. run_grow rows m i Begin u) (Y n) (λ u. run cols n j Begin u) a.0 (X a.0) refl (below_map (other_places P) (other_places P) (other_ends (TurnEnds Inv Q)) (TurnEnds (λ t s. Inv s t) (other_ends Q)) (λ q t p s x. x) (flip_turn Inv Q) (Y n) (X a.0) a.1) (λ t s x. loop_leads L cols rows (other_places P) (λ t s. Inv s t) (other_ends Q) j c i r ej ei (λ t s x m less. let d = (h.begins s t x).back m less in (d.0, below_map (other_places P) (other_places P) (other_ends (TurnEnds Inv Q)) (TurnEnds (λ t s. Inv s t) (other_ends Q)) (λ q t p s x. x) (flip_turn Inv Q) (does cols c Begin t m) (does rows r Begin s d.0) d.1)) n le t s x);
  }

  pub loop_both : (P : Places S T) (Inv : S → T → Type 0) (Q : Ends S T) (i : I) (r : Row S I) (j : J) (c : Row T J) → rows i ≡ Loop r i → cols j ≡ Loop c j → Sim rows cols L P Inv (TurnEnds Inv Q) r c → Sim rows cols L P Inv Q (Loop r i) (Loop c j)
  loop_both P Inv Q i r j c ei ej h = record {
    begins = λ s t pre. loop_both_at P Inv Q i r j c ei ej h (does rows r Begin s) (does cols c Begin t) (does_grow rows r Begin s) (does_grow cols c Begin t) (h.begins s t pre);
    goes_on = λ p q how s t x. loop_both_at P Inv Q i r j c ei ej h (does rows r (Back p how) s) (does cols c (Back q how) t) (does_grow rows r (Back p how) s) (does_grow cols c (Back q how) t) (h.goes_on p q how s t x);
  }

  sub_begins : (P Pb : Places S T) (Q Qb : Ends S T) (x : Entry S I) (y : Entry T J) → Entries rows cols L Q Pb Qb x y → Both L P Q (λ n. entered (run rows n) x) (λ n. entered (run cols n) y)
  sub_begins P Pb Q Qb (Into i start s leave) (Into j start' t leave') h = record {
    there = λ n le. let a = h.both.there n le in (a.0, sub_there P Pb Q Qb leave leave' h.at_pause h.at_end _ _ a.1);
    back = λ n le. let a = h.both.back n le in (a.0, sub_there (other_places P) (other_places Pb) (other_ends Q) (other_ends Qb) leave' leave (λ q t p s v x. flip_acts Q _ _ (h.at_pause p s q t v x)) (λ e' t e s x. flip_acts Q _ _ (h.at_end e s e' t x)) _ _ a.1);
  }
  sub_begins P Pb Q Qb (Into i start s leave) (Instead g) h = absurd h
  sub_begins P Pb Q Qb (Instead f) (Into j start' t leave') h = absurd h
  sub_begins P Pb Q Qb (Instead f) (Instead g) h = record { there = λ n le. (0, (h.outs, h.ends)); back = λ n le. (0, (sym h.outs, h.ends)) }

  -- two bodies
  pub sub_both : (P : Places S T) (Pre : S → T → Type 0) (Q : Ends S T) (f : S → Entry S I) (g : T → Entry T J) → ((p : List Step) (s : S) (q : List Step) (t : T) → ¬ P p s q t) → ((s : S) (t : T) → Pre s t → Corresponding rows cols L Q (f s) (g t)) → Sim rows cols L P Pre Q (Sub f) (Sub g)
  sub_both P Pre Q f g none h = record {
    begins = λ s t pre. let a = h s t pre in sub_begins P a.places Q a.ends (f s) (g t) a.entries;
    goes_on = λ p q how s t x. absurd (none p s q t x);
  }

  pause_goes_on : (R : S → T → Type 0) (Q : Ends S T) (v w : Value) → ((how : How) (s : S) (t : T) → R s t → Q (sent how) s (sent how) t) → (p q : List Step) (how : How) (s : S) (t : T) → PausePlace R p s q t → Both L (PausePlace R) Q (does rows (Yld v) (Back p how) s) (does cols (Yld w) (Back q how) t)
  pause_goes_on R Q v w h [] [] how s t x = record { there = λ n le. (0, (refl, h how s t x)); back = λ n le. (0, (refl, h how s t x)) }
  pause_goes_on R Q v w h [] (y ∷ q) how s t x = absurd x
  pause_goes_on R Q v w h (y ∷ p) q how s t x = absurd x

  -- two pauses that yield the same
  pub pause_both : (Pre R : S → T → Type 0) (Q : Ends S T) (v : Value) → ((s : S) (t : T) → Pre s t → R s t) → ((how : How) (s : S) (t : T) → R s t → Q (sent how) s (sent how) t) → Sim rows cols L (PausePlace R) Pre Q (Yld v) (Yld v)
  pause_both Pre R Q v f h = record {
    begins = λ s t pre. record { there = λ n le. (0, (refl, refl, f s t pre)); back = λ n le. (0, (refl, refl, f s t pre)) };
    goes_on = pause_goes_on R Q v v h;
  }
