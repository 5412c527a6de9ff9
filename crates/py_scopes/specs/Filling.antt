-- How the scopes get their names: one site after another changes its scope. No public contract rests on these.
use Rattle.std.specs.Prelude.{ℕ, suc, true, ◌==◌, if◌then◌else◌, List, [], ◌∷◌, ◌++◌, Option, Some, None}
use Rattle.std.specs.Borrow.{Bor}
use Rattle.py_ast.specs.declared.scoped.NameHome.{NameHome}
use Rattle.py_ast.specs.declared.scoped.Scope.{Scope}
use Rattle.py_scopes.specs.declared.survey.What.{What}
use Rattle.py_scopes.specs.declared.survey.What.TheVariants as what
use Rattle.py_scopes.specs.declared.survey.Survey.{Survey}
use Rattle.py_scopes.specs.Homes.{home}
use Rattle.py_scopes.specs.Rules.{variable}
use Rattle.py_scopes.specs.Seen.{has}

abbrev pub bare : Scope → Scope
bare x = record x { names = [] }

-- the change at this number, in the list that begins with the number k
abbrev pub changed : (Scope → Scope) → ℕ → ℕ → List Scope → List Scope
changed change at k [] = []
changed change at k (x ∷ xs) = (if at == k then change x else x) ∷ changed change at (suc k) xs

abbrev pub with_name : NameHome → Scope → Scope
with_name name x = record x { names = x.names ++ name ∷ [] }

abbrev pub as_generator : Scope → Scope
as_generator x = record x { is_generator = true }

-- what a site changes in its scope, where the set has the names before it
abbrev pub name_change : Survey → List (ℕ × Bor (List ℕ)) → ℕ → Option (List ℕ) → Scope → Scope
name_change survey keys scope (Some x) entry =
    if has keys scope x then entry else with_name (record { name = x; home = home survey x scope }) entry
name_change survey keys scope None entry = entry

abbrev pub change : Survey → List (ℕ × Bor (List ℕ)) → ℕ → What → Scope → Scope
change survey keys scope what.Yield = as_generator
change survey keys scope w = name_change survey keys scope (variable w)
