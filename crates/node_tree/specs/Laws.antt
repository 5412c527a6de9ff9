-- The laws of node trees.
use Rattle.std.specs.Prelude.{ℕ, List, ◌++◌, ◌≡◌}
use Rattle.nu_run.specs.Runs.{IsMonotone}
use Rattle.nu_rows.specs.Rows.{Step, How, Begin, Back, does}
use Rattle.nu_rows.specs.Places.{part_at, rest_of, IsFirstPart}
use Rattle.nu_calls.specs.Calls.{State}
use Rattle.op_forms.specs.Rules.{Rules}
use Rattle.node_tree.specs.declared.node.Node.{Node}
use Rattle.node_tree.specs.declared.script.NodeScript.{NodeScript}
use Rattle.node_tree.specs.Blocks.{Block, append}
use Rattle.node_tree.specs.Nodes.{Frame, Item, R, L, block_row}
use Rattle.node_tree.specs.Run.{node_run}
use Rattle.node_tree.specs.Tree.{block}

-- a larger bound prints no less, and an end stays
abbrev pub NodeRunsAreMonotone : Type 0
NodeRunsAreMonotone = (rules : Rules) (script : NodeScript) (input : List ℕ) → IsMonotone (node_run rules script input)

-- the outcome of a block from its beginning, and from any place in it, is what the block makes of the outcome of the
-- part there, at any depth
pub record BlocksGoOn : Type 0 where
  pub begin : (l : L) (rows : Item → R) (b : Block) (p : List Step) → IsFirstPart (block_row l b) p → (s : State Frame) (n : ℕ) → does rows (block_row l b) Begin s n ≡ rest_of rows n (block_row l b) p (does rows (part_at (block_row l b) p) Begin s n)
  pub back : (l : L) (rows : Item → R) (b : Block) (p q : List Step) (how : How) (s : State Frame) (n : ℕ) → does rows (block_row l b) (Back (p ++ q) how) s n ≡ rest_of rows n (block_row l b) p (does rows (part_at (block_row l b) p) (Back q how) s n)

-- the block of two lists of nodes is one block after the other
abbrev pub BlocksAppend : Type 0
BlocksAppend = (xs ys : List Node) → block (xs ++ ys) ≡ append (block xs) (block ys)
