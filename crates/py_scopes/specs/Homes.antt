-- The home of a name: the scope that holds it (reference, section 4.2.2; 7.12; 7.13).
use Rattle.std.specs.Prelude.{ℕ, zero, suc, Bool, true, false, not, ◌&&◌, ◌==◌, if◌then◌else◌, List, [], ◌∷◌, length, Option, Some, None, slice_get, unwrap_or}
use Rattle.std.specs.List.{list_any, filter}
use Rattle.std.specs.Str.{bytes_eq}
use Rattle.py_ast.specs.declared.scoped.ScopeKind.{ScopeKind}
use Rattle.py_ast.specs.declared.scoped.ScopeKind.TheVariants as kind
use Rattle.py_ast.specs.declared.scoped.Scope.{Scope}
use Rattle.py_scopes.specs.declared.survey.What.{What}
use Rattle.py_scopes.specs.declared.survey.What.TheVariants as what
use Rattle.py_scopes.specs.declared.survey.Site.{Site}
use Rattle.py_scopes.specs.declared.survey.Survey.{Survey}

-- such a thing stands in the scope
abbrev pub somewhere : (What → Bool) → ℕ → List Site → Bool
somewhere test scope = list_any (λ site. (site.place.scope == scope) && test site.what)

-- Names that stand somewhere

-- the name that is bound
abbrev pub bound : What → Option (List ℕ)
bound (what.Binds x) = Some x
bound (what.Parameter x) = Some x
bound _ = None

-- the name that stands, other than in a declaration
abbrev pub standing : What → Option (List ℕ)
standing (what.Uses x) = Some x
standing w = bound w

abbrev pub global : What → Option (List ℕ)
global (what.Global x) = Some x
global _ = None

abbrev pub nonlocal : What → Option (List ℕ)
nonlocal (what.Nonlocal x) = Some x
nonlocal _ = None

-- it is this name
abbrev pub is_name : List ℕ → Option (List ℕ) → Bool
is_name x (Some y) = bytes_eq y x
is_name x None = false

-- the name occurs so in the scope
abbrev pub occurs : (What → Option (List ℕ)) → List ℕ → ℕ → List Site → Bool
occurs so x = somewhere (λ w. is_name x (so w))

-- The scopes around a scope

abbrev pub class_kind : ScopeKind → Bool
class_kind kind.Class = true
class_kind _ = false

abbrev pub is_class_scope : Option Scope → Bool
is_class_scope (Some scope) = class_kind scope.kind
is_class_scope None = false

abbrev pub is_class : Survey → ℕ → Bool
is_class survey scope = is_class_scope (slice_get survey.scopes scope)

abbrev pub around_scope : Option Scope → ℕ
around_scope (Some scope) = scope.enclosing
around_scope None = 0

-- the number of the scope directly around
abbrev pub enclosing : Survey → ℕ → ℕ
enclosing survey scope = around_scope (slice_get survey.scopes scope)

-- the scopes around a scope, from the inside outwards to the module, at most n of them
abbrev pub around_within : Survey → ℕ → ℕ → List ℕ
around_within survey zero scope = []
around_within survey (suc n) scope =
    if scope == 0 then [] else (enclosing survey scope ∷ around_within survey n (enclosing survey scope))

-- those of them whose names are seen from inside: all but the classes
abbrev pub seen_within : Survey → ℕ → ℕ → List ℕ
seen_within survey n scope = filter (λ at. not (is_class survey at)) (around_within survey n scope)

abbrev pub seen : Survey → ℕ → List ℕ
seen survey scope = seen_within survey (length survey.scopes) scope

-- Homes

-- a scope binds a name where it is bound there and not declared otherwise
abbrev pub binds : Survey → List ℕ → ℕ → Bool
binds survey x scope =
    occurs bound x scope survey.sites && not (occurs nonlocal x scope survey.sites)

-- the home that a scope decides: the module where it declares the name global, itself where it binds the name
abbrev pub decided : Survey → List ℕ → ℕ → Option ℕ
decided survey x scope =
    if occurs global x scope survey.sites then Some 0
    else (if binds survey x scope then Some scope
    else None)

-- the home that the first of these scopes decides; else the module
abbrev pub first_home : Survey → List ℕ → List ℕ → ℕ
first_home survey x [] = 0
first_home survey x (scope ∷ scopes) = unwrap_or (decided survey x scope) (first_home survey x scopes)

-- the home of a name that stands in a scope
unfoldable pub home : Survey → List ℕ → ℕ → ℕ
home survey x scope = first_home survey x (scope ∷ seen survey scope)

-- its home if this scope did not bind it: where a `nonlocal` statement finds it
unfoldable pub outer_home : Survey → List ℕ → ℕ → ℕ
outer_home survey x scope = first_home survey x (seen survey scope)

-- what a scope decides for those inside it: a class nothing
abbrev pub decided_inside : Survey → List ℕ → ℕ → Option ℕ
decided_inside survey x scope = if is_class survey scope then None else decided survey x scope
