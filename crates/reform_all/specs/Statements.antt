-- What statements become.
use Rattle.std.specs.Prelude.{◌≡◌, ℕ, ◌≤◌, List, [], map, length, Option, None, Result, Ok, Err}
use Rattle.py_ast.specs.declared.stmt.Branch.{Branch}
use Rattle.py_ast.specs.declared.stmt.Stmt.{Stmt}
use Rattle.node_tree.specs.declared.node.Node.{Node}
use Rattle.node_tree.specs.Tree as tree
use Rattle.py_scopes.specs.Parts.{branch_of}
use Rattle.node_tree.specs.Contents as contents
use Rattle.py_meaning.specs.Syntax as syntax
use Rattle.py_meaning.specs.Resolved as meaning
use Rattle.py_meaning.specs.Resolved.{Context}
use Rattle.carries_base.specs.Frames.{Homes, behind}
use Rattle.carries_base.specs.Carries.{CarriesBlock}
use Rattle.reform_all.specs.declared.ending.ReformEnd.{ReformEnd}
use Rattle.reform_all.specs.declared.choices.Choice.{Choice}
use Rattle.reform_all.specs.Assignments.{Answers}
use Rattle.reform_all.specs.Built as built
use Rattle.reform_all.specs.Choices.{Arm, chain, CarriesArms}
use Rattle.reform_all.specs.Quiet.{AllQuiet}
use Rattle.reform_all.specs.Taken.{refused}
use Rattle.reform_all.specs.Expressions.{InModule, Is, Fails}

abbrev pub Stated : List (List ℕ) → Stmt → ℕ → ℕ → Result (List Node) ReformEnd → Type 0
Stated bound s = Answers ((built.stmt s).unbuilt bound) (meaning.stmt s)

-- nodes carry a block
pub record BlockBecomes (unbuilt : Option ℕ) (meant : Context → meaning.Making syntax.Block) (old new : ℕ) (nodes : List Node) : Type 0 where
  pub built : unbuilt ≡ None
  pub grows : old ≤ new
  pub means : (c : Context) → InModule c → syntax.Block
  pub is : (c : Context) → (m : InModule c) → Is (meant c) (means c m)
  pub carries : (c : Context) → (m : InModule c) → (h : Homes) (low : ℕ) (caught : Option ℕ) → behind h ≤ low → low ≤ old → CarriesBlock h low new caught (means c m) (tree.block nodes)
  pub taken : refused (tree.block nodes) ≡ 0
  pub yields : contents.yields (tree.block nodes) ≡ 0

abbrev pub BlockAnswers : Option ℕ → (Context → meaning.Making syntax.Block) → ℕ → ℕ → Result (List Node) ReformEnd → Type 0
BlockAnswers unbuilt meant old new (Ok nodes) = BlockBecomes unbuilt meant old new nodes
BlockAnswers unbuilt meant old new (Err e) = Fails unbuilt e

-- statements, one after another
abbrev pub AllStated : List (List ℕ) → List Stmt → ℕ → ℕ → Result (List Node) ReformEnd → Type 0
AllStated bound ss = BlockAnswers (built.all_unbuilt (map built.stmt ss) bound) (λ c. meaning.block c (map meaning.stmt ss))

-- branches before their `else`
pub record BranchesBecome (bound : List (List ℕ)) (bs : List (Branch Stmt)) (old new : ℕ) (ps : List Choice) : Type 0 where
  pub built : built.branches_unbuilt (map (branch_of built.stmt) bs) [] bound ≡ None
  pub grows : old ≤ new
  pub means : (c : Context) → InModule c → List Arm
  pub count : (c : Context) → (m : InModule c) → length (means c m) ≡ length bs
  pub is : (c : Context) → (m : InModule c) → (other : meaning.Making syntax.Block) (o : syntax.Block) → Is other o → Is (meaning.branches c (map (branch_of meaning.stmt) bs) other) (chain (means c m) o)
  pub carries : (c : Context) → (m : InModule c) → (h : Homes) (low : ℕ) (caught : Option ℕ) → behind h ≤ low → low ≤ old → CarriesArms h low new caught (means c m) ps
  pub quiet : AllQuiet ps

abbrev pub Chosen : List (List ℕ) → List (Branch Stmt) → ℕ → ℕ → Result (List Choice) ReformEnd → Type 0
Chosen bound bs old new (Ok ps) = BranchesBecome bound bs old new ps
Chosen bound bs old new (Err e) = Fails (built.branches_unbuilt (map (branch_of built.stmt) bs) [] bound) e
