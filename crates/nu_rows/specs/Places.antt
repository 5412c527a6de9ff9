-- Where a run goes on: the part of a row in which a place begins, and what the row does with that part's outcome.
use Rattle.std.specs.Prelude.{ℕ, List, [], ◌∷◌}
use Rattle.nu_rows.specs.Rows.{Undefined, Step, First, Second, Begin, Res, Row, Part, Then, Loop, after, shift, turned, interp, run}
use Rattle.nu_rows.specs.Words.{ends_with}

-- the part of a row to which steps lead. A further turn of a loop has the places of its turn
abbrev pub part_at : {S I : Type 0} → Row S I → List Step → Row S I
part_at r [] = r
part_at (Then r k) (First ∷ p) = part_at r p
part_at (Then r k) (Second e ∷ p) = part_at (k e) p
part_at (Loop r again) (x ∷ p) = part_at r (x ∷ p)
part_at r (x ∷ p) = ends_with Undefined

-- what a row does with the outcome of the part to which steps lead
abbrev pub rest_of : {S I : Type 0} → (I → Row S I) → ℕ → Row S I → List Step → Res S → Res S
rest_of rows n r [] o = o
rest_of rows n (Then r k) (First ∷ p) o = after (rest_of rows n r p o) (λ e t. interp (run rows n) (k e) Begin t)
rest_of rows n (Then r k) (Second e ∷ p) o = shift [] (Second e) (rest_of rows n (k e) p o)
rest_of rows n (Loop r again) (x ∷ p) o = turned (rest_of rows n r (x ∷ p) o) (λ t. run rows n again Begin t)
rest_of rows n r (x ∷ p) o = o

-- the steps don't lead through an item, whose row is evaluated within a lesser bound
abbrev pub IsDirect : {S I : Type 0} → Row S I → List Step → Type 0
IsDirect r [] = Unit {0}
IsDirect (Then r k) (First ∷ p) = IsDirect r p
IsDirect (Then r k) (Second e ∷ p) = IsDirect (k e) p
IsDirect (Loop r again) (x ∷ p) = IsDirect r (x ∷ p)
IsDirect (Part item) (x ∷ p) = ⊥
IsDirect r (x ∷ p) = Unit {0}

-- the steps lead to the part with which the row begins
abbrev pub IsFirstPart : {S I : Type 0} → Row S I → List Step → Type 0
IsFirstPart r [] = Unit {0}
IsFirstPart (Then r k) (First ∷ p) = IsFirstPart r p
IsFirstPart (Loop r again) (x ∷ p) = IsFirstPart r (x ∷ p)
IsFirstPart r (x ∷ p) = ⊥
