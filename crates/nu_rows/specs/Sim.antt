-- When one outcome extends another, and when two rows correspond.
use Rattle.std.specs.Prelude.{ℕ, suc, ◌≤◌, List, ◌≡◌}
use Rattle.nu_run.specs.Runs.{IsPrefix}
use Rattle.nu_rows.specs.Rows.{End, Step, How, Begin, Back, Res, Spent, Paused, Ended, Row, does}

abbrev pub printed : {S : Type 0} → Res S → List ℕ
printed (Spent o) = o
printed (Paused o s v p) = o
printed (Ended o s e) = o

-- the first is spent and printed a front of what the second did, or they are one
abbrev pub Grow : {S : Type 0} → Res S → Res S → Type 0
Grow (Spent o) r = IsPrefix o (printed r)
Grow (Paused o s v p) r = r ≡ Paused o s v p
Grow (Ended o s e) r = r ≡ Ended o s e

-- each bound prints a front of what the next does, and a pause or an end stays
abbrev pub Growing : {S : Type 0} → (ℕ → Res S) → Type 0
Growing X = (n : ℕ) → Grow (X n) (X (suc n))

-- which places, with the states there, correspond; which ends, with the states then, do
abbrev pub Places : Type 0 → Type 0 → Type 1
Places S T = List Step → S → List Step → T → Type 0

abbrev pub Ends : Type 0 → Type 0 → Type 1
Ends S T = End → S → End → T → Type 0

-- the first outcome is spent with less printed, or the second corresponds to it
abbrev pub Below : {S T : Type 0} → Places S T → Ends S T → Res S → Res T → Type 0
Below P Q (Spent o) r = IsPrefix o (printed r)
Below P Q (Paused o s v p) (Paused o' t v' q) = (o ≡ o') × (v ≡ v') × P p s q t
Below P Q (Ended o s e) (Ended o' t e') = (o ≡ o') × Q e s e' t
Below P Q r c = ⊥

-- the same with the sides exchanged
abbrev pub other_places : {S T : Type 0} → Places S T → Places T S
other_places P q t p s = P p s q t

abbrev pub other_ends : {S T : Type 0} → Ends S T → Ends T S
other_ends Q e' t e s = Q e s e' t

-- for each bound of the first up to L there is a bound of the second
abbrev pub Leads : {S T : Type 0} → ℕ → Places S T → Ends S T → (ℕ → Res S) → (ℕ → Res T) → Type 0
Leads L P Q X Y = (n : ℕ) → n ≤ L → (m : ℕ) × Below P Q (X n) (Y m)

-- and the other way round
pub record Both {S T : Type 0} (L : ℕ) (P : Places S T) (Q : Ends S T) (X : ℕ → Res S) (Y : ℕ → Res T) : Type 0 where
  pub there : Leads L P Q X Y
  pub back : Leads L (other_places P) (other_ends Q) Y X

-- two rows correspond, from the beginning and from each pair of corresponding places
pub record Sim {S T I J : Type 0} (rows : I → Row S I) (cols : J → Row T J) (L : ℕ) (P : Places S T) (Pre : S → T → Type 0) (Q : Ends S T) (r : Row S I) (c : Row T J) : Type 0 where
  pub begins : (s : S) (t : T) → Pre s t → Both L P Q (does rows r Begin s) (does cols c Begin t)
  pub goes_on : (p q : List Step) (how : How) (s : S) (t : T) → P p s q t → Both L P Q (does rows r (Back p how) s) (does cols c (Back q how) t)
