-- Accepted scripts have the runs of the nodes of their codes.
use Rattle.std.specs.Prelude.{◌≡◌, ℕ, List, length, Some, None, Ok}
use Rattle.nu_run.specs.Runs.{Same}
use Rattle.op_forms.specs.Rules.{Rules}
use Rattle.node_tree.specs.declared.script.NodeScript.{NodeScript}
use Rattle.node_tree.specs.Run.{node_run}
use Rattle.py_ast.specs.declared.scoped.Scoped.{Scoped}
use Rattle.py_ast.specs.declared.stmt.Script.{Script}
use Rattle.py_scopes.specs.Resolve.{Answers, AnswersBuiltIn}
use Rattle.py_meaning.specs.Script.{all_codes, py_run}
use Rattle.carried_codes.specs.Laws.{AreMadeOf}

-- the nodes are those of each code of a script that keeps the static rules, alone or with a built-in text behind it: they do what the
-- script does, under all rules of operations and over every input
pub record AcceptedScriptsAreCarried : Type 0 where
  pub alone : (script : Script) (scoped : Scoped) (nodes : NodeScript) → Answers script (Ok scoped) → nodes.scripts ≡ length scoped.scopes → AreMadeOf (all_codes scoped None) nodes.codes
      → (rules : Rules) (input : List ℕ) → Same (py_run rules nodes.name scoped None input) (node_run rules nodes input)
  pub with_text : (script : Script) (scoped : Scoped) (text : Script) (behind : Scoped) (nodes : NodeScript) → Answers script (Ok scoped) → AnswersBuiltIn text (Ok behind) → nodes.scripts ≡ length scoped.scopes → AreMadeOf (all_codes scoped (Some behind)) nodes.codes
      → (rules : Rules) (input : List ℕ) → Same (py_run rules nodes.name scoped (Some behind) input) (node_run rules nodes input)
