-- What lists of names, one for each scope, gain of the names that stand in scopes.
use Rattle.std.specs.Prelude.{◌≡◌, ℕ, zero, suc, ◌==◌, Bool, false, not, ◌&&◌, List, [], map, option_map, slice_get, if◌then◌else◌}
use Rattle.std.specs.List.{filter}
use Rattle.py_ast.specs.declared.scoped.NameHome.{NameHome}
use Rattle.py_ast.specs.declared.scoped.Scope.{Scope}
use Rattle.py_meaning.specs.Scopes.{is_free, is_inside_within, names_where, around}
use Rattle.reform_homes.specs.Names.{gained_all}

-- each list gains the names for its number
abbrev pub Gain : List (List (List ℕ)) → List (List (List ℕ)) → (ℕ → List (List ℕ)) → Type 0
Gain old new names = (a : ℕ) → slice_get new a ≡ option_map (λ list. gained_all list (names a)) (slice_get old a)

-- what the old lists gain of some names, the new ones gain of the rest of them
abbrev pub Rest : List (List (List ℕ)) → List (List (List ℕ)) → (ℕ → List (List ℕ)) → (ℕ → List (List ℕ)) → Type 0
Rest old new names rest =
    (a : ℕ) → option_map (λ list. gained_all list (names a)) (slice_get old a) ≡ option_map (λ list. gained_all list (rest a)) (slice_get new a)

-- the names that meet a test
abbrev pub texts : (NameHome → Bool) → List NameHome → List (List ℕ)
texts test names = map (λ n. n.name) (filter test names)

-- the names of the scope with this number that have a cell in another one
abbrev pub lent : ℕ → ℕ → List NameHome → List (List ℕ)
lent a scope names = texts (λ n. n.home == a) (if not (scope == a) then names else [])

abbrev pub captured_names : List Scope → ℕ → List (List ℕ)
captured_names scopes a = texts (λ n. n.home == a) (names_where (λ scope. not (scope == a)) 0 scopes)

-- the names of the scope with this number that are free in another one, if that is so
abbrev pub passed : ℕ → List NameHome → ℕ → Bool → List (List ℕ)
passed scope names a here = texts (is_free a) (if here && not (scope == a) then names else [])

-- a scope around this one is the other one, within so many scopes
abbrev pub outward : ℕ → List Scope → ℕ → ℕ → Bool
outward zero scopes a at = false
outward (suc n) scopes a at = not (at == 0) && is_inside_within n scopes a (around (slice_get scopes at))
