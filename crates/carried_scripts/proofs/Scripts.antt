-- Accepted scripts have the runs of their nodes, since their codes are lawful.
use Rattle.std.proofs.Common.{◌≡◌, ℕ, List, ◌++◌, length, sym, subst}
use Rattle.nu_run.specs.Runs.{Same}
use Rattle.op_forms.specs.Rules.{Rules}
use Rattle.node_tree.specs.declared.script.NodeScript.{NodeScript}
use Rattle.node_tree.specs.Run.{node_run}
use Rattle.py_ast.specs.declared.scoped.Scope.{Scope}
use Rattle.py_meaning.specs.Bodies.{codes_run}
use Rattle.py_meaning.specs.Syntax as syntax
use Rattle.py_safe.specs.Constructs.{LawfulCodes}
use Rattle.py_accepted.specs.Laws.{role_in, AcceptedScriptsAreLawful}
use Rattle.carried_codes.specs.Laws.{AreMadeOf, ScriptsAreCarried}
use Rattle.carried_scripts.specs.Laws.{AcceptedScriptsAreCarried}

-- as many scripts as the nodes say
by_count : ScriptsAreCarried → (scopes : List Scope) (n : ℕ) (nodes : NodeScript) (codes : List syntax.Code) → nodes.scripts ≡ n → LawfulCodes (role_in scopes) n codes → AreMadeOf codes nodes.codes
    → (rules : Rules) (input : List ℕ) → Same (codes_run rules nodes.name n codes input) (node_run rules nodes input)
by_count carried scopes n nodes codes e lawful made rules input =
    subst (λ m. Same (codes_run rules nodes.name m codes input) (node_run rules nodes input)) e
    (carried rules (role_in scopes) nodes codes (subst (λ m. LawfulCodes (role_in scopes) m codes) (sym e) lawful) made input)

pub accepted_carried : AcceptedScriptsAreLawful → ScriptsAreCarried → AcceptedScriptsAreCarried
accepted_carried lawful carried = record {
  alone = λ script scoped nodes a e made rules input. by_count carried scoped.scopes (length scoped.scopes) nodes _ e (lawful.alone script scoped a) made rules input;
  with_text = λ script scoped text behind nodes a b e made rules input. by_count carried (scoped.scopes ++ behind.scopes) (length scoped.scopes) nodes _ e (lawful.with_text script scoped text behind a b) made rules input;
}
