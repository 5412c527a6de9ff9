-- Where the names of a scope live in its frame (reference, section 4.2.2).
use Rattle.std.specs.Prelude.{ℕ, zero, suc, ◌+◌, Bool, true, false, not, ◌&&◌, ◌||◌, ◌==◌, if◌then◌else◌, nat_lt, List, [], ◌∷◌, ◌++◌, map, length, Option, Some, None, slice_get}
use Rattle.std.specs.List.{list_any, filter}
use Rattle.std.specs.Str.{bytes_eq}
use Rattle.py_ast.specs.declared.scoped.NameHome.{NameHome}
use Rattle.py_ast.specs.declared.scoped.Scope.{Scope}
use Rattle.py_ast.specs.declared.scoped.ScopeKind.{ScopeKind}
use Rattle.py_ast.specs.declared.scoped.ScopeKind.TheVariants as kind
use Rattle.py_meaning.specs.Syntax as syntax

abbrev pub has : List (List ℕ) → List ℕ → Bool
has names x = list_any (bytes_eq x) names

-- the place of a name in a list
abbrev pub place_in : List (List ℕ) → List ℕ → ℕ
place_in [] x = 0
place_in (y ∷ names) x = if bytes_eq y x then 0 else place_in names x + 1

abbrev pub distinct : List (List ℕ) → List (List ℕ)
distinct [] = []
distinct (x ∷ names) = x ∷ filter (λ y. not (bytes_eq y x)) (distinct names)

abbrev pub names_in : Option Scope → List NameHome
names_in (Some scope) = scope.names
names_in None = []

abbrev pub names_at : List Scope → ℕ → List NameHome
names_at scopes scope = names_in (slice_get scopes scope)

abbrev pub around : Option Scope → ℕ
around (Some scope) = scope.enclosing
around None = 0

-- a scope is this one, or lies inside it, within so many scopes
abbrev pub is_inside_within : ℕ → List Scope → ℕ → ℕ → Bool
is_inside_within zero scopes this scope = this == scope
is_inside_within (suc n) scopes this scope = (this == scope) || (not (scope == 0) && is_inside_within n scopes this (around (slice_get scopes scope)))

abbrev pub is_inside : List Scope → ℕ → ℕ → Bool
is_inside scopes = is_inside_within (length scopes) scopes

-- the names of those scopes of a list, numbered from a number on, that meet a test
abbrev pub names_where : (ℕ → Bool) → ℕ → List Scope → List NameHome
names_where test n [] = []
names_where test n (scope ∷ scopes) = (if test n then scope.names else []) ++ names_where test (n + 1) scopes

-- a name of this scope stands in another
abbrev pub is_captured : List Scope → ℕ → List ℕ → Bool
is_captured scopes this x =
    list_any (λ n. (n.home == this) && bytes_eq n.name x) (names_where (λ scope. not (scope == this)) 0 scopes)

abbrev pub kind_in : Option Scope → ScopeKind
kind_in (Some scope) = scope.kind
kind_in None = kind.Module

abbrev pub is_class : ScopeKind → Bool
is_class kind.Class = true
is_class other = false

-- a frame holds the names of functions, lambdas and comprehensions; those of a module and of a class block are looked up
abbrev pub holds_names : ScopeKind → Bool
holds_names kind.Module = false
holds_names kind.Class = false
holds_names other = true

-- the names that live in this scope's frame
abbrev pub held_names : List Scope → ℕ → List (List ℕ)
held_names scopes this =
    if holds_names (kind_in (slice_get scopes this)) then map (λ n. n.name) (filter (λ n. n.home == this) (names_at scopes this)) else []

-- those of them that have a cell, since another scope uses them, in the order in which they first stand there
abbrev pub own_names : List Scope → ℕ → List (List ℕ)
own_names scopes this = filter (is_captured scopes this) (held_names scopes this)

-- the local variables: the parameters, and the names without a cell
abbrev pub local_names : List Scope → ℕ → List (List ℕ) → List (List ℕ)
local_names scopes this parameters =
    parameters ++ filter (λ x. not (is_captured scopes this x) && not (has parameters x)) (held_names scopes this)

-- it lives in a function around this scope
abbrev pub is_free : ℕ → NameHome → Bool
is_free this n = not (n.home == 0) && nat_lt n.home this

-- the names that this scope and those inside it have of enclosing functions: those of its own text first
abbrev pub free_names : List Scope → ℕ → List (List ℕ)
free_names scopes this =
    distinct (map (λ n. n.name) (filter (is_free this)
    (names_at scopes this ++ names_where (λ scope. is_inside scopes this scope && not (scope == this)) 0 scopes)))

abbrev pub home_among : List NameHome → List ℕ → ℕ
home_among [] x = 0
home_among (n ∷ names) x = if bytes_eq n.name x then n.home else home_among names x

-- where a name of a scope lives, by its home
abbrev pub home_by : List Scope → ℕ → List (List ℕ) → List ℕ → ℕ → syntax.Home
home_by scopes this parameters x home =
    if home == 0 then syntax.Module x
    else if not (home == this) then syntax.Free (place_in (free_names scopes this) x) x
    else if is_class (kind_in (slice_get scopes this)) then syntax.InClass x
    else if is_captured scopes this x then syntax.Own (place_in (own_names scopes this) x) x
    else syntax.Local (place_in (local_names scopes this parameters) x) x

abbrev pub home_of : List Scope → ℕ → List (List ℕ) → List ℕ → syntax.Home
home_of scopes this parameters x = home_by scopes this parameters x (home_among (names_at scopes this) x)

-- the cell of this scope that an inner scope gets for a name
abbrev pub cell_for : List Scope → ℕ → List ℕ → syntax.CellPlace
cell_for scopes this x =
    if has (own_names scopes this) x then syntax.OwnCell (place_in (own_names scopes this) x) else syntax.FreeCell (place_in (free_names scopes this) x)

abbrev pub cells_for : List Scope → ℕ → ℕ → List syntax.CellPlace
cells_for scopes this inner = map (cell_for scopes this) (free_names scopes inner)

-- the parameter that a name is
abbrev pub parameter_of : List (List ℕ) → List ℕ → Option ℕ
parameter_of parameters x = if has parameters x then Some (place_in parameters x) else None
