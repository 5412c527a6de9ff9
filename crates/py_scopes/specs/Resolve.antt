-- What `resolve` answers for a script, and `resolve_built_in` for the built-in text: the scopes with the homes of their
-- names, or the rule that it breaks.
use Rattle.std.specs.Prelude.{ℕ, suc, Bool, true, false, ◌||◌, ◌==◌, ◌≡◌, if◌then◌else◌, List, [], ◌∷◌, ◌++◌, Option, Some, None, Result, Ok, Err}
use Rattle.py_ast.specs.declared.scoped.NameHome.{NameHome}
use Rattle.py_ast.specs.declared.scoped.Scope.{Scope}
use Rattle.py_ast.specs.declared.scoped.Scoped.{Scoped}
use Rattle.py_ast.specs.declared.stmt.Script.{Script}
use Rattle.py_scopes.specs.declared.survey.What.{What}
use Rattle.py_scopes.specs.declared.survey.What.TheVariants as what
use Rattle.py_scopes.specs.declared.survey.Site.{Site}
use Rattle.py_scopes.specs.declared.survey.Survey.{Survey}
use Rattle.py_scopes.specs.declared.end.ScopeEnd.{ScopeEnd}
use Rattle.py_scopes.specs.declared.end.ScopeEnd.TheVariants as ends
use Rattle.py_scopes.specs.Survey.{survey_of}
use Rattle.py_scopes.specs.Homes.{somewhere, occurs, home}
use Rattle.py_scopes.specs.Rules.{variable, Refuses, KeepsAll}
use Rattle.py_scopes.specs.Rules as rules
use Rattle.py_scopes.specs.Rules.{Kind}

abbrev pub is_yield : What → Bool
is_yield what.Yield = true
is_yield _ = false

-- the name with its home, where it stands in the scope for the first time
abbrev pub new_name : Survey → List Site → ℕ → Option (List ℕ) → List NameHome
new_name survey before scope (Some x) =
    if occurs variable x scope before then [] else ((record { name = x; home = home survey x scope }) ∷ [])
new_name survey before scope None = []

abbrev pub names_at : Survey → List Site → ℕ → Site → List NameHome
names_at survey before scope site =
    if site.place.scope == scope then new_name survey before scope (variable site.what) else []

-- the names that stand in a scope, in the order in which they first do
abbrev pub names_from : Survey → ℕ → List Site → List Site → List NameHome
names_from survey scope before [] = []
names_from survey scope before (site ∷ sites) =
    names_at survey before scope site ++ names_from survey scope (before ++ site ∷ []) sites

-- a scope of this number, with what these sites say of it
abbrev pub entry : Survey → List Site → ℕ → Scope → Scope
entry survey sites scope x = record x {
  is_generator = somewhere is_yield scope sites || x.is_generator;
  names = names_from survey scope [] sites;
}

-- the scopes from this number on, with what these sites say of them
abbrev pub filled : Survey → List Site → ℕ → List Scope → List Scope
filled survey sites scope [] = []
filled survey sites scope (x ∷ xs) = entry survey sites scope x ∷ filled survey sites (suc scope) xs

-- the scopes of a script with the homes of their names
unfoldable pub scopes_of : Survey → List Scope
scopes_of survey = filled survey survey.sites 0 survey.scopes

-- what a survey is resolved to
abbrev pub Resolves : Survey → Result (List Scope) ScopeEnd → Type 0
Resolves survey (Ok scopes) = (scopes ≡ scopes_of survey) × KeepsAll survey
Resolves survey (Err (ends.Target line)) = Refuses survey rules.Target line
Resolves survey (Err (ends.Loop line)) = Refuses survey rules.Loop line
Resolves survey (Err (ends.Function line)) = Refuses survey rules.Function line
Resolves survey (Err (ends.Declare line)) = Refuses survey rules.Declare line
Resolves survey (Err (ends.Name line)) = Refuses survey rules.Name line
Resolves survey (Err (ends.Raise line)) = Refuses survey rules.Raise line
Resolves survey (Err (ends.Repeat line)) = Refuses survey rules.Repeat line
Resolves survey (Err ends.Memory) = ⊥

-- a script, or the built-in text where it is marked so, is resolved to itself with its scopes, or refused; want of
-- memory says nothing
abbrev pub AnswersAs : Bool → Script → Result Scoped ScopeEnd → Type 0
AnswersAs built_in script (Ok scoped) = (scoped.script ≡ script) × Resolves (survey_of built_in script.statements) (Ok scoped.scopes)
AnswersAs built_in script (Err ends.Memory) = Unit {0}
AnswersAs built_in script (Err end) = Resolves (survey_of built_in script.statements) (Err end)

abbrev pub Answers : Script → Result Scoped ScopeEnd → Type 0
Answers script = AnswersAs false script

abbrev pub AnswersBuiltIn : Script → Result Scoped ScopeEnd → Type 0
AnswersBuiltIn script = AnswersAs true script
