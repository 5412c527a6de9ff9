-- The laws of rows.
use Rattle.std.specs.Prelude.{ℕ, suc, List, [], ◌++◌, Bool, IsTrue, ◌≡◌}
use Rattle.nu_run.specs.declared.End as run_end
use Rattle.nu_run.specs.Runs.{IsMonotone, Same}
use Rattle.nu_value.specs.declared.value.Value.{Value}
use Rattle.nu_rows.specs.Rows.{End, Step, How, Start, Begin, Back, Effect, Row, Act, Yld, Part, Then, Loop, Sub, Entry, sent, does}
use Rattle.nu_rows.specs.Places.{part_at, rest_of, IsDirect, IsFirstPart}
use Rattle.nu_rows.specs.Sim.{Growing, Places, Ends, Both, Sim}
use Rattle.nu_rows.specs.Matching.{Acts, Entries, ThenPlaces, TurnEnds, PausePlace, ReadPlaces, TidyPlaces, Silent}
use Rattle.nu_rows.specs.Driver.{main_run}

-- a larger bound prints no less, and a pause or an end stays
pub record RowsGrow (S I : Type 0) : Type 0 where
  pub row : (rows : I → Row S I) (r : Row S I) (start : Start) (s : S) → Growing (does rows r start s)
  pub main : (rows : I → Row S I) (shows : End → S → run_end.End) (r : Row S I) (s : S) → IsMonotone (main_run rows shows r s)

-- the outcome of a row, from its beginning and from each place, is what the row makes of the outcome of the part there
pub record OutcomeFromPlaces (S I : Type 0) : Type 0 where
  pub begin : (rows : I → Row S I) (r : Row S I) (p : List Step) → IsFirstPart r p → (s : S) (n : ℕ) → does rows r Begin s n ≡ rest_of rows n r p (does rows (part_at r p) Begin s n)
  pub back : (rows : I → Row S I) (r : Row S I) (p q : List Step) → IsDirect r p → (how : How) (s : S) (n : ℕ) → does rows r (Back (p ++ q) how) s n ≡ rest_of rows n r p (does rows (part_at r p) (Back q how) s n)
  pub item : (rows : I → Row S I) (i : I) (start : Start) (s : S) (n : ℕ) → does rows (Part i) start s (suc n) ≡ does rows (rows i) start s n

-- relations that are tested, so that laws may speak of all of them
abbrev pub PlacesTest : Type 0 → Type 0 → Type 0
PlacesTest S T = List Step → S → List Step → T → Bool

abbrev pub EndsTest : Type 0 → Type 0 → Type 0
EndsTest S T = End → S → End → T → Bool

abbrev pub places_of : {S T : Type 0} → PlacesTest S T → Places S T
places_of P p s q t = IsTrue (P p s q t)

abbrev pub ends_of : {S T : Type 0} → EndsTest S T → Ends S T
ends_of Q e s e' t = IsTrue (Q e s e' t)

abbrev pub states_of : {S T : Type 0} → (S → T → Bool) → S → T → Type 0
states_of R s t = IsTrue (R s t)

-- rows correspond where their parts do, in both directions
pub record RowsCorrespond (S T I J : Type 0) : Type 0 where
  pub act : (rows : I → Row S I) (cols : J → Row T J) (L : ℕ) (Pre : S → T → Bool) (Q : EndsTest S T) (f : S → Effect S) (g : T → Effect T) → ((s : S) (t : T) → states_of Pre s t → Acts (ends_of Q) (f s) (g t)) → Sim rows cols L (λ p s q t. ⊥) (states_of Pre) (ends_of Q) (Act f) (Act g)
  pub pause : (rows : I → Row S I) (cols : J → Row T J) (L : ℕ) (Pre R : S → T → Bool) (Q : EndsTest S T) (v : Value) → ((s : S) (t : T) → states_of Pre s t → states_of R s t) → ((how : How) (s : S) (t : T) → states_of R s t → ends_of Q (sent how) s (sent how) t) → Sim rows cols L (PausePlace (states_of R)) (states_of Pre) (ends_of Q) (Yld v) (Yld v)
  pub item_left : (rows : I → Row S I) (cols : J → Row T J) (L : ℕ) (P : PlacesTest S T) (Pre : S → T → Bool) (Q : EndsTest S T) (i : I) (c : Row T J) → Sim rows cols L (places_of P) (states_of Pre) (ends_of Q) (rows i) c → Sim rows cols L (places_of P) (states_of Pre) (ends_of Q) (Part i) c
  pub item_right : (rows : I → Row S I) (cols : J → Row T J) (L : ℕ) (P : PlacesTest S T) (Pre : S → T → Bool) (Q : EndsTest S T) (r : Row S I) (j : J) → Sim rows cols L (places_of P) (states_of Pre) (ends_of Q) r (cols j) → Sim rows cols L (places_of P) (states_of Pre) (ends_of Q) r (Part j)
  pub then : (rows : I → Row S I) (cols : J → Row T J) (L : ℕ) (P₁ : PlacesTest S T) (P₂ : End → End → PlacesTest S T) (Pre : S → T → Bool) (R Q : EndsTest S T) (r : Row S I) (c : Row T J) (K : End → Row S I) (D : End → Row T J) → Sim rows cols L (places_of P₁) (states_of Pre) (ends_of R) r c → ((e e' : End) → Sim rows cols L (places_of (P₂ e e')) (λ s t. ends_of R e s e' t) (ends_of Q) (K e) (D e')) → Sim rows cols L (ThenPlaces (places_of P₁) (λ e e'. places_of (P₂ e e'))) (states_of Pre) (ends_of Q) (Then r K) (Then c D)
  pub loop : (rows : I → Row S I) (cols : J → Row T J) (L : ℕ) (P : PlacesTest S T) (Inv : S → T → Bool) (Q : EndsTest S T) (i : I) (r : Row S I) (j : J) (c : Row T J) → rows i ≡ Loop r i → cols j ≡ Loop c j → Sim rows cols L (places_of P) (states_of Inv) (TurnEnds (states_of Inv) (ends_of Q)) r c → Sim rows cols L (places_of P) (states_of Inv) (ends_of Q) (Loop r i) (Loop c j)
  pub body : (rows : I → Row S I) (cols : J → Row T J) (L : ℕ) (Pre : S → T → Bool) (Q : EndsTest S T) (Pb : S → T → PlacesTest S T) (Qb : S → T → EndsTest S T) (f : S → Entry S I) (g : T → Entry T J) → ((s : S) (t : T) → states_of Pre s t → Entries rows cols L (ends_of Q) (places_of (Pb s t)) (ends_of (Qb s t)) (f s) (g t)) → Sim rows cols L (λ p s q t. ⊥) (states_of Pre) (ends_of Q) (Sub f) (Sub g)
  -- the second row first does a silent act of its own
  pub reads : (rows : I → Row S I) (cols : J → Row T J) (L : ℕ) (P₂ : End → PlacesTest S T) (Pre : S → T → Bool) (Mid : End → S → T → Bool) (Q : EndsTest S T) (r : Row S I) (f : T → Effect T) (D : End → Row T J) → ((s : S) (t : T) → states_of Pre s t → ((f t).out ≡ []) × states_of (Mid (f t).end) s (f t).state) → ((e' : End) → Sim rows cols L (places_of (P₂ e')) (states_of (Mid e')) (ends_of Q) r (D e')) → Sim rows cols L (ReadPlaces (λ e. places_of (P₂ e))) (states_of Pre) (ends_of Q) r (Then (Act f) D)
  -- the second row does something silent of its own at the end
  pub tidies : (rows : I → Row S I) (cols : J → Row T J) (L : ℕ) (P₁ : PlacesTest S T) (Pre : S → T → Bool) (R Q : EndsTest S T) (r : Row S I) (c : Row T J) (D : End → Row T J) → ((e : End) (s : S) (e' : End) (t : T) → ends_of R e s e' t → (e'' : End) × (t' : T) × Silent (does cols (D e') Begin t) e'' t' × ends_of Q e s e'' t') → Sim rows cols L (places_of P₁) (states_of Pre) (ends_of R) r c → Sim rows cols L (TidyPlaces (places_of P₁)) (states_of Pre) (ends_of Q) r (Then c D)
  -- main rows that correspond within each bound, and whose ends a run shows alike, have the same run
  pub main : (rows : I → Row S I) (cols : J → Row T J) (P : PlacesTest S T) (Q : EndsTest S T) (shows : End → S → run_end.End) (shows' : End → T → run_end.End) → ((e : End) (s : S) (e' : End) (t : T) → ends_of Q e s e' t → shows e s ≡ shows' e' t) → (r : Row S I) (c : Row T J) (s : S) (t : T) → ((L : ℕ) → Both L (places_of P) (ends_of Q) (does rows r Begin s) (does cols c Begin t)) → Same (main_run rows shows r s) (main_run cols shows' c t)
