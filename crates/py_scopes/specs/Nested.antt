-- How the scopes of a script nest.
use Rattle.std.specs.Prelude.{ℕ, Bool, ◌<◌, ◌≡◌, List, Some, Ok, slice_get}
use Rattle.py_ast.specs.declared.scoped.Scope.{Scope}
use Rattle.py_ast.specs.declared.scoped.Scoped.{Scoped}
use Rattle.py_ast.specs.declared.stmt.Script.{Script}
use Rattle.py_scopes.specs.Resolve.{AnswersAs}

-- each scope but the first stands directly in one of a lower number
abbrev pub Nest : List Scope → Type 0
Nest scopes = (at : ℕ) (scope : Scope) → 0 < at → slice_get scopes at ≡ Some scope → scope.enclosing < at

-- the scopes of a resolved script, or of the resolved built-in text, nest so: outwards from any of them the numbers fall to 0, that of the module
abbrev pub ScopesNest : Type 0
ScopesNest = (built_in : Bool) (script : Script) (scoped : Scoped) → AnswersAs built_in script (Ok scoped) → Nest scoped.scopes
