-- What stands in the primitive statements of lawful codes.
use Rattle.std.specs.Prelude.{nat_lt, length, ◌≡◌, ℕ, ◌*◌, ◌≤◌, Bool, true, Option, List, Some, None, Ok}
use Rattle.std.specs.List.{AllByRecursion}
use Rattle.node_tree.specs.Tree as tree
use Rattle.node_tree.specs.declared.script.NodeCode.{NodeCode}
use Rattle.py_ast.specs.declared.scoped.Scoped.{Scoped}
use Rattle.py_ast.specs.declared.stmt.Script.{Script}
use Rattle.py_meaning.specs.Syntax as syntax
use Rattle.op_forms.specs.declared.op.Op.{Op}
use Rattle.py_ast.specs.declared.scoped.NameHome.{NameHome}
use Rattle.py_meaning.specs.Own.{own}
use Rattle.py_meaning.specs.Texts.{texts}
use Rattle.py_meaning.specs.Script.{all_codes}
use Rattle.py_safe.specs.Rosters.{Role, Roster, IsCode}
use Rattle.py_safe.specs.Constructs.{LawfulCode}
use Rattle.py_scopes.specs.Resolve.{Answers, AnswersBuiltIn}
use Rattle.carried_codes.specs.Nodes.{code_nodes}
use Rattle.carried_codes.specs.Laws.{AreMadeOf}
use Rattle.carried_contents.specs.Counts.{stand, asked}
use Rattle.carried_contents.specs.Naming.{other_names, other_texts}
use Rattle.carried_contents.specs.Taking.{refused, unnumbered}

-- each operation takes what it is given, and each function has the number of a code that is there
pub record CodesAreTaken : Type 0 where
  pub taken : (r : Roster) (role : Role) (c : syntax.Code) → LawfulCode r role c → refused (code_nodes c) ≡ 0
  pub numbered : (r : Roster) (role : Role) (c : syntax.Code) → LawfulCode r role c → (inside : ℕ → Bool) → ((n : ℕ) (role : Role) → IsCode r n role → inside n ≡ true) → unnumbered inside (code_nodes c) ≡ 0

-- among so many codes
abbrev pub IsTaken : ℕ → NodeCode → Type 0
IsTaken count k = (refused (tree.block k.body) ≡ 0) × (unnumbered (λ code. nat_lt code count) (tree.block k.body) ≡ 0)

-- so it is in the nodes of a script that keeps the static rules, alone or with a built-in text behind it
pub record AcceptedScriptsAreTaken : Type 0 where
  pub alone : (script : Script) (scoped : Scoped) (nodes : List NodeCode) → Answers script (Ok scoped) → AreMadeOf (all_codes scoped None) nodes → AllByRecursion (IsTaken (length nodes)) nodes
  pub with_text : (script : Script) (scoped : Scoped) (text : Script) (behind : Scoped) (nodes : List NodeCode) → Answers script (Ok scoped) → AnswersBuiltIn text (Ok behind) → AreMadeOf (all_codes scoped (Some behind)) nodes
      → AllByRecursion (IsTaken (length nodes)) nodes

-- operations that aren't free stand at most four times as often as the scope's own list asks for them, by every test of operations and
-- their bare names
abbrev pub CodesAreCounted : Type 0
CodesAreCounted = (test : Op → Option (List ℕ) → Bool) (c : syntax.Code) → stand test (code_nodes c) ≤ 4 * asked test (own c)

-- bare names and text constants are texts of the scope: what all its texts pass, they pass
abbrev pub CodesAreNamed : Type 0
CodesAreNamed = (fits : List ℕ → Bool) (codes : List syntax.Code) (names : List NameHome) (c : syntax.Code) → AllByRecursion (λ text. fits text ≡ true) (texts codes names c)
    → (other_names fits (code_nodes c) ≡ 0) × (other_texts fits (code_nodes c) ≡ 0)
