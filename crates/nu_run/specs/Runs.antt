-- Runs with a bound, and when two of them are the same.
use Rattle.std.specs.Prelude.{◌≡◌, ℕ, ◌≤◌, List, ◌++◌}
use Rattle.nu_run.specs.declared.End.{End}
use Rattle.nu_run.specs.declared.End.TheVariants as end

-- what was printed within a bound, and the end, if it was reached
pub data Run : Type 0 where
  Going : (printed : List ℕ) → Run
  Ended : (printed : List ℕ) (end : End) → Run

abbrev pub printed_by : Run → List ℕ
printed_by (Going printed) = printed
printed_by (Ended printed e) = printed

-- a front of a list
pub record IsPrefix (front all : List ℕ) : Type 0 where
  pub rest : List ℕ
  pub is : all ≡ front ++ rest

-- the first printed a front of what the second did; where it has ended, the second has the same output and end
abbrev pub Below : Run → Run → Type 0
Below (Going printed) r = IsPrefix printed (printed_by r)
Below (Ended printed e) r = r ≡ Ended printed e

-- whatever one does within a bound, the other does within some bound
abbrev pub Follows : (ℕ → Run) → (ℕ → Run) → Type 0
Follows one other = (n : ℕ) → (m : ℕ) × Below (one n) (other m)

-- the same output and the same end, in both directions
pub record Same (one other : ℕ → Run) : Type 0 where
  pub there : Follows one other
  pub back : Follows other one

-- a larger bound prints no less, and an end stays
abbrev pub IsMonotone : (ℕ → Run) → Type 0
IsMonotone one = (m n : ℕ) → m ≤ n → Below (one m) (one n)

-- an end other than Undefined
abbrev pub IsDefinedEnd : End → Type 0
IsDefinedEnd end.Done = Unit {0}
IsDefinedEnd (end.Uncaught text) = Unit {0}
IsDefinedEnd (end.Stopped kind) = Unit {0}
IsDefinedEnd (end.Undefined function statement) = ⊥

-- no bound ends Undefined
abbrev pub IsDefined : (ℕ → Run) → Type 0
IsDefined one = (n : ℕ) (printed : List ℕ) (e : End) → one n ≡ Ended printed e → IsDefinedEnd e
