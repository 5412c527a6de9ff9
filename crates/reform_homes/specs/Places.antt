-- Which names a frame holds.
use Rattle.std.specs.Prelude.{ℕ, ◌==◌, Bool, not, ◌&&◌, List}
use Rattle.py_ast.specs.declared.scoped.NameHome.{NameHome}
use Rattle.py_ast.specs.declared.scoped.ScopeKind.{ScopeKind}
use Rattle.py_meaning.specs.Scopes.{has, holds_names}

abbrev pub is_held : ScopeKind → ℕ → NameHome → Bool
is_held kind this n = holds_names kind && (n.home == this)

-- it has a cell
abbrev pub is_own : ScopeKind → ℕ → List (List ℕ) → NameHome → Bool
is_own kind this captured n = is_held kind this n && has captured n.name

-- it has none, and is no parameter
abbrev pub is_other : ScopeKind → ℕ → List (List ℕ) → List (List ℕ) → NameHome → Bool
is_other kind this captured params n = is_held kind this n && (not (has captured n.name) && not (has params n.name))
