-- How the parts of two rows have to correspond, so that the rows do.
use Rattle.std.specs.Prelude.{ℕ, zero, suc, List, [], ◌∷◌, ◌≡◌}
use Rattle.nu_value.specs.declared.value.Value.{Value}
use Rattle.nu_value.specs.declared.value.Value.TheVariants as value
use Rattle.nu_rows.specs.Rows.{End, Next, Leave, Raised, Return, Stopped, Undefined, Step, First, Second, Start, Res, Ended, Effect, Row, Left, AtPause, AtEnd, Entry, Into, Instead, run}
use Rattle.nu_rows.specs.Sim.{Places, Ends, Both}

-- places of a row and what follows it
abbrev pub ThenPlaces : {S T : Type 0} → Places S T → (End → End → Places S T) → Places S T
ThenPlaces P₁ P₂ [] s q t = ⊥
ThenPlaces P₁ P₂ (First ∷ p) s [] t = ⊥
ThenPlaces P₁ P₂ (First ∷ p) s (First ∷ q) t = P₁ p s q t
ThenPlaces P₁ P₂ (First ∷ p) s (Second e' ∷ q) t = ⊥
ThenPlaces P₁ P₂ (Second e ∷ p) s [] t = ⊥
ThenPlaces P₁ P₂ (Second e ∷ p) s (First ∷ q) t = ⊥
ThenPlaces P₁ P₂ (Second e ∷ p) s (Second e' ∷ q) t = P₂ e e' p s q t

-- ends of a turn: values keep what holds before each turn, all others are those of the loop
abbrev pub TurnEnds : {S T : Type 0} → (S → T → Type 0) → Ends S T → Ends S T
TurnEnds Inv Q (Next v) s (Next w) t = Inv s t
TurnEnds Inv Q (Leave i) s (Next w) t = ⊥
TurnEnds Inv Q (Leave zero) s (Leave zero) t = Q (Next value.None) s (Next value.None) t
TurnEnds Inv Q (Leave (suc i)) s (Leave (suc j)) t = Q (Leave i) s (Leave j) t
TurnEnds Inv Q (Raised e) s (Raised e') t = Q (Raised e) s (Raised e') t
TurnEnds Inv Q (Return v) s (Return w) t = Q (Return v) s (Return w) t
TurnEnds Inv Q (Stopped k) s (Stopped l) t = Q (Stopped k) s (Stopped l) t
TurnEnds Inv Q Undefined s Undefined t = Q Undefined s Undefined t
TurnEnds Inv Q e s e' t = ⊥

-- two effects print the same and end correspondingly
pub record Acts {S T : Type 0} (Q : Ends S T) (f : Effect S) (g : Effect T) : Type 0 where
  pub outs : f.out ≡ g.out
  pub ends : Q f.end f.state g.end g.state

-- two bodies correspond, by these places and ends, and so does what is made of how they stopped
pub record Enters {S T I J : Type 0} (rows : I → Row S I) (cols : J → Row T J) (L : ℕ) (Q : Ends S T) (places : Places S T) (ends : Ends S T) (i : I) (start : Start) (s : S) (leave : Left S → Effect S) (j : J) (start' : Start) (t : T) (leave' : Left T → Effect T) : Type 0 where
  pub both : Both L places ends (λ n. run rows n i start s) (λ n. run cols n j start' t)
  pub at_pause : (p : List Step) (s : S) (q : List Step) (t : T) (v : Value) → places p s q t → Acts Q (leave (AtPause s v p)) (leave' (AtPause t v q))
  pub at_end : (e : End) (s : S) (e' : End) (t : T) → ends e s e' t → Acts Q (leave (AtEnd s e)) (leave' (AtEnd t e'))

-- two entries, by these places and ends: both run a body, or neither does
abbrev pub Entries : {S T I J : Type 0} → (I → Row S I) → (J → Row T J) → ℕ → Ends S T → Places S T → Ends S T → Entry S I → Entry T J → Type 0
Entries rows cols L Q P' Q' (Into i start s leave) (Into j start' t leave') = Enters rows cols L Q P' Q' i start s leave j start' t leave'
Entries rows cols L Q P' Q' (Instead f) (Instead g) = Acts Q f g
Entries rows cols L Q P' Q' x y = ⊥

-- the same, by some places and ends
pub record Corresponding {S T I J : Type 0} (rows : I → Row S I) (cols : J → Row T J) (L : ℕ) (Q : Ends S T) (x : Entry S I) (y : Entry T J) : Type 1 where
  pub places : Places S T
  pub ends : Ends S T
  pub entries : Entries rows cols L Q places ends x y

-- the one place of a pause
abbrev pub PausePlace : {S T : Type 0} → (S → T → Type 0) → Places S T
PausePlace R [] s [] t = R s t
PausePlace R p s q t = ⊥

-- places, where the right side first does an act of its own
abbrev pub ReadPlaces : {S T : Type 0} → (End → Places S T) → Places S T
ReadPlaces P₂ p s [] t = ⊥
ReadPlaces P₂ p s (First ∷ q) t = ⊥
ReadPlaces P₂ p s (Second e' ∷ q) t = P₂ e' p s q t

-- places, where the right side does something of its own at the end
abbrev pub TidyPlaces : {S T : Type 0} → Places S T → Places S T
TidyPlaces P₁ p s [] t = ⊥
TidyPlaces P₁ p s (First ∷ q) t = P₁ p s q t
TidyPlaces P₁ p s (Second e' ∷ q) t = ⊥

-- what ends so within some bound, with nothing printed
pub record Silent {T : Type 0} (Y : ℕ → Res T) (e : End) (t : T) : Type 0 where
  pub bound : ℕ
  pub by : Y bound ≡ Ended [] t e
