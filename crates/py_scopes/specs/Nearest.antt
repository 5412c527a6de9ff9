-- The home of a name as the nearest scope that decides it (reference, section 4.2.2).
use Rattle.std.specs.Prelude.{ℕ, ◌≡◌, List, ◌∷◌, ◌++◌, Some, true, is_none, ◌⊎◌}
use Rattle.std.specs.List.{list_all}
use Rattle.py_scopes.specs.declared.survey.Survey.{Survey}
use Rattle.py_scopes.specs.Homes.{decided, seen, home}

-- these scopes neither bind the name nor declare it global
abbrev pub IsUndecided : Survey → List ℕ → List ℕ → Type 0
IsUndecided survey x scopes = list_all (λ scope. is_none (decided survey x scope)) scopes ≡ true

-- the nearest of these scopes that binds the name or declares it global gives it this home
pub record IsNearest (survey : Survey) (x : List ℕ) (scopes : List ℕ) (home : ℕ) : Type 0 where
  pub before : List ℕ
  pub scope : ℕ
  pub after : List ℕ
  pub cut : scopes ≡ before ++ scope ∷ after
  pub undecided : IsUndecided survey x before
  pub decides : decided survey x scope ≡ Some home

-- the home of a name is that of the nearest scope around it, itself first and other classes left out; else the module
abbrev pub HasNearestHome : Type 0
HasNearestHome = (survey : Survey) (x : List ℕ) (scope : ℕ)
    → IsNearest survey x (scope ∷ seen survey scope) (home survey x scope)
    ⊎ (IsUndecided survey x (scope ∷ seen survey scope) × (home survey x scope ≡ 0))
