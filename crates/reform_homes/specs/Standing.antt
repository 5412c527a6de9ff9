-- What the tables of a script's scopes say.
use Rattle.std.specs.Prelude.{◌≡◌, ℕ, ◌+◌, ◌<◌, ◌^◌, not, ◌&&◌, List, Some, length, option_map, slice_get, unwrap_or}
use Rattle.std.specs.List.{filter}
use Rattle.py_ast.specs.declared.scoped.Scope.{Scope}
use Rattle.py_meaning.specs.Scopes.{has, is_captured, free_names, own_names, held_names, home_among}
use Rattle.reform_homes.specs.Names.{number_in}

-- the names of each scope that stand in others
abbrev pub Captured : List Scope → List (List (List ℕ)) → Type 0
Captured scopes lists = (a : ℕ) (x : List ℕ) → option_map (λ names. has names x) (slice_get lists a) ≡ option_map (λ scope. is_captured scopes a x) (slice_get scopes a)

-- the names that each scope has of enclosing functions
abbrev pub Free : List Scope → List (List (List ℕ)) → Type 0
Free scopes lists = (a : ℕ) → slice_get lists a ≡ option_map (λ scope. free_names scopes a) (slice_get scopes a)

-- the local variables behind the parameters
abbrev pub other_names : List Scope → ℕ → List (List ℕ) → List (List ℕ)
other_names scopes this params = filter (λ x. not (is_captured scopes this x) && not (has params x)) (held_names scopes this)

-- the tables of a scope with these parameters
pub record Stands (scopes : List Scope) (this : ℕ) (entry : Scope) (in_cells outer params inner more : List (List ℕ)) (numbers : List (List ℕ × ℕ)) : Type 0 where
  pub scope : slice_get scopes this ≡ Some entry
  pub captured : (x : List ℕ) → has in_cells x ≡ is_captured scopes this x
  pub free : outer ≡ free_names scopes this
  pub own : inner ≡ own_names scopes this
  pub others : more ≡ other_names scopes this params
  pub homes : (x : List ℕ) → unwrap_or (number_in numbers x) 0 ≡ home_among entry.names x
  pub room : length params + length outer + length inner + length more < 2 ^ 63
