-- The static rules, as tests of what stands in a script, and their table.
use Rattle.std.specs.Prelude.{ℕ, Bool, true, false, not, ◌&&◌, ◌||◌, ◌==◌, ◌≡◌, ◌≤◌, if◌then◌else◌, List, ◌∷◌, ◌++◌, Option, Some, None, slice_get}
use Rattle.std.specs.List.{list_any}
use Rattle.std.specs.Str.{bytes_eq}
use Rattle.py_ast.specs.declared.scoped.ScopeKind.{ScopeKind}
use Rattle.py_ast.specs.declared.scoped.ScopeKind.TheVariants as kind
use Rattle.py_ast.specs.declared.scoped.Scope.{Scope}
use Rattle.py_scopes.specs.declared.survey.What.{What}
use Rattle.py_scopes.specs.declared.survey.What.TheVariants as what
use Rattle.py_scopes.specs.declared.survey.Site.{Site}
use Rattle.py_scopes.specs.declared.survey.Survey.{Survey}
use Rattle.py_scopes.specs.Names.{is_unwritten, is_given}
use Rattle.py_scopes.specs.Homes.{occurs, standing, bound, global, nonlocal, is_name, home, outer_home}

-- The kinds of refusal, in the order of their table
pub data Kind : Type 0 where
  Target : Kind
  Loop : Kind
  Function : Kind
  Declare : Kind
  Name : Kind
  Raise : Kind
  Repeat : Kind

abbrev pub rank : Kind → ℕ
rank Target = 0
rank Loop = 1
rank Function = 2
rank Declare = 3
rank Name = 4
rank Raise = 5
rank Repeat = 6

-- Target (reference, sections 7.2, 7.2.1, 7.5, 8.3): the survey says where something is no target

abbrev pub is_misplaced : What → Bool
is_misplaced what.Misplaced = true
is_misplaced _ = false

-- Loop (sections 7.9, 7.10): `break` and `continue` stand in the body of a loop of their scope

abbrev pub is_break : What → Bool
is_break what.Break = true
is_break _ = false

abbrev pub is_loose : Site → Bool
is_loose site = is_break site.what && not site.place.in_loop

-- Function (sections 7.6, 6.2.9): `return` stands in a function, `yield` in one that is written with `def`

abbrev pub kind_of : Option Scope → ScopeKind
kind_of (Some scope) = scope.kind
kind_of None = kind.Module

abbrev pub is_function : ScopeKind → Bool
is_function kind.Function = true
is_function _ = false

abbrev pub is_block : ScopeKind → Bool
is_block kind.Module = true
is_block kind.Class = true
is_block _ = false

abbrev pub leaves_none : What → ScopeKind → Bool
leaves_none what.Return scope = is_block scope
leaves_none what.Yield scope = not (is_function scope)
leaves_none _ scope = false

abbrev pub is_outside : Survey → Site → Bool
is_outside survey site = leaves_none site.what (kind_of (slice_get survey.scopes site.place.scope))

-- Declare (sections 7.12, 7.13): a declaration stands before every other place of its name in the scope, so it is of
-- no parameter; no name is both global and nonlocal there; an enclosing function binds a nonlocal name

abbrev pub clashes : Survey → List Site → ℕ → What → Bool
clashes survey before scope (what.Global x) =
    occurs standing x scope before || occurs nonlocal x scope before
clashes survey before scope (what.Nonlocal x) =
    occurs standing x scope before || occurs global x scope before || (outer_home survey x scope == 0)
clashes survey before scope _ = false

-- Name (sections 4.2.2, 3.3): a name whose home is the module is bound there, or where it is declared global, or it is
-- given; no identifier between double underscores is unwritten

-- the name of a variable, in a declaration or not
abbrev pub variable : What → Option (List ℕ)
variable (what.Global x) = Some x
variable (what.Nonlocal x) = Some x
variable w = standing w

abbrev pub identifier : What → Option (List ℕ)
identifier (what.Attribute x) = Some x
identifier (what.Keyword start x) = Some x
identifier w = variable w

-- the name that the module gets where a name is bound: in the module itself, or where it is declared global
abbrev pub module_name : Survey → ℕ → Option (List ℕ) → Option (List ℕ)
module_name survey scope (Some x) = if (scope == 0) || occurs global x scope survey.sites then Some x else None
module_name survey scope None = None

abbrev pub binds_in_module : Survey → List ℕ → Site → Bool
binds_in_module survey x site = is_name x (module_name survey site.place.scope (bound site.what))

-- the module has the name
abbrev pub has_name : Survey → List ℕ → Bool
has_name survey x = list_any (binds_in_module survey x) survey.sites || is_given survey.built_in x

abbrev pub is_unknown : Survey → ℕ → List ℕ → Bool
is_unknown survey scope x = not (has_name survey x) && (home survey x scope == 0)

abbrev pub is_unwritten_in : Option (List ℕ) → Bool
is_unwritten_in (Some x) = is_unwritten x
is_unwritten_in None = false

abbrev pub is_unknown_in : Survey → ℕ → Option (List ℕ) → Bool
is_unknown_in survey scope (Some x) = is_unknown survey scope x
is_unknown_in survey scope None = false

abbrev pub is_unnamed : Survey → Site → Bool
is_unnamed survey site =
    is_unwritten_in (identifier site.what) || is_unknown_in survey site.place.scope (variable site.what)

-- Raise (section 7.8): a bare `raise` stands in an `except` clause of its scope, and in no `finally` clause inside that

abbrev pub is_reraise : What → Bool
is_reraise what.Reraise = true
is_reraise _ = false

abbrev pub is_bare : Site → Bool
is_bare site = is_reraise site.what && not site.place.in_except

-- Repeat (sections 8.7, 6.3.4): no parameter stands twice in a list, and no keyword argument

abbrev pub parameter : What → Option (List ℕ)
parameter (what.Parameter x) = Some x
parameter _ = None

abbrev pub is_keyword : ℕ → List ℕ → What → Bool
is_keyword start x (what.Keyword other y) = (other == start) && bytes_eq y x
is_keyword start x _ = false

abbrev pub repeats : List Site → ℕ → What → Bool
repeats before scope (what.Parameter x) = occurs parameter x scope before
repeats before scope (what.Keyword start x) = list_any (λ site. is_keyword start x site.what) before
repeats before scope _ = false

-- The table

-- something breaks a rule, by the script and by what stands before it
abbrev pub fault : Kind → Survey → List Site → Site → Bool
fault Target survey before site = is_misplaced site.what
fault Loop survey before site = is_loose site
fault Function survey before site = is_outside survey site
fault Declare survey before site = clashes survey before site.place.scope site.what
fault Name survey before site = is_unnamed survey site
fault Raise survey before site = is_bare site
fault Repeat survey before site = repeats before site.place.scope site.what

-- the script breaks a rule here
pub record Breaks (kind : Kind) (survey : Survey) : Type 0 where
  pub before : List Site
  pub site : Site
  pub after : List Site
  pub cut : survey.sites ≡ before ++ site ∷ after
  pub here : fault kind survey before site ≡ true

-- the first place that breaks a rule is in this line
pub record BreaksFirst (kind : Kind) (survey : Survey) (line : ℕ) : Type 0 where
  pub place : Breaks kind survey
  pub there : place.site.line ≡ line
  pub first : (other : Breaks kind survey) → (more : List Site) × (other.before ≡ place.before ++ more)

-- the first kind of the table that the script breaks anywhere, and where it first does
abbrev pub Refuses : Survey → Kind → ℕ → Type 0
Refuses survey kind line = BreaksFirst kind survey line × ((other : Kind) → Breaks other survey → rank kind ≤ rank other)

abbrev pub KeepsAll : Survey → Type 0
KeepsAll survey = (kind : Kind) → Breaks kind survey → ⊥
