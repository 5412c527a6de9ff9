-- The codes of accepted scripts are lawful.
use Rattle.std.specs.Prelude.{◌≡◌, ℕ, List, ◌++◌, length, Some, None, Ok, slice_get}
use Rattle.nu_run.specs.Runs.{IsDefined}
use Rattle.op_forms.specs.Rules.{Rules}
use Rattle.py_ast.specs.declared.scoped.Scope.{Scope}
use Rattle.py_ast.specs.declared.scoped.ScopeKind.{ScopeKind}
use Rattle.py_ast.specs.declared.scoped.ScopeKind.TheVariants as kind
use Rattle.py_ast.specs.declared.scoped.Scoped.{Scoped}
use Rattle.py_ast.specs.declared.stmt.Script.{Script}
use Rattle.py_scopes.specs.Resolve.{Answers, AnswersBuiltIn}
use Rattle.py_meaning.specs.Scopes.{kind_in}
use Rattle.py_meaning.specs.Syntax as syntax
use Rattle.py_meaning.specs.Resolved.{header}
use Rattle.py_meaning.specs.Script.{all_codes, py_run}
use Rattle.py_safe.specs.Rosters.{Role, OfModule, OfFunction, OfClass}
use Rattle.py_safe.specs.Rules.{KeepsLaw}
use Rattle.py_safe.specs.Constructs.{LawfulCodes}

-- what the code of a scope is run as
abbrev pub role_of : ScopeKind → Role
role_of kind.Module = OfModule
role_of kind.Class = OfClass
role_of other = OfFunction

abbrev pub role_in : List Scope → ℕ → Role
role_in scopes n = role_of (kind_in (slice_get scopes n))

-- each scope has a code of its number, with its name, line and kind
pub record OneForEach (scopes : List Scope) (codes : List syntax.Code) : Type 0 where
  pub count : length codes ≡ length scopes
  pub heads : (n : ℕ) (code : syntax.Code) → slice_get codes n ≡ Some code → code.header ≡ header (slice_get scopes n) code.header.params

-- of a script that keeps the static rules there is one code for each scope, and all are lawful
pub record AcceptedScriptsAreLawful : Type 0 where
  pub codes : (script : Script) (scoped : Scoped) → Answers script (Ok scoped) → OneForEach scoped.scopes (all_codes scoped None)
  pub alone : (script : Script) (scoped : Scoped) → Answers script (Ok scoped) → LawfulCodes (role_in scoped.scopes) (length scoped.scopes) (all_codes scoped None)
  -- also with a built-in text behind the script
  pub with_text : (script : Script) (scoped : Scoped) (text : Script) (behind : Scoped) → Answers script (Ok scoped) → AnswersBuiltIn text (Ok behind)
      → LawfulCodes (role_in (scoped.scopes ++ behind.scopes)) (length scoped.scopes) (all_codes scoped (Some behind))

-- so no run of such a script ends Undefined, alone or with a built-in text, under rules of operations that keep law
pub record AcceptedScriptsNeverEndUndefined : Type 0 where
  pub alone : (rules : Rules) → KeepsLaw rules → (name : List ℕ) (script : Script) (scoped : Scoped) → Answers script (Ok scoped) → (input : List ℕ) → IsDefined (py_run rules name scoped None input)
  pub with_text : (rules : Rules) → KeepsLaw rules → (name : List ℕ) (script : Script) (scoped : Scoped) (text : Script) (behind : Scoped) → Answers script (Ok scoped) → AnswersBuiltIn text (Ok behind)
      → (input : List ℕ) → IsDefined (py_run rules name scoped (Some behind) input)
