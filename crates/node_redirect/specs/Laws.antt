-- What rewritten blocks do.
use Rattle.std.specs.Prelude.{ℕ}
use Rattle.node_tree.specs.Blocks as tree
use Rattle.node_tree.specs.Nodes as nodes
use Rattle.node_redirect.specs.Redirect.{redirect}
use Rattle.node_redirect.specs.Shown.{Redirected}

-- a rewritten block pauses where the block did, in the same states, and its ends are as they show, inside any number of loops
abbrev pub RewrittenBlocksDoTheSame : Type 0
RewrittenBlocksDoTheSame = (l : nodes.L) (blocks : ℕ → tree.Block) (t : ℕ) (b : tree.Block) (d : ℕ) → Redirected l blocks t d (nodes.block_row l b) (nodes.block_row l (redirect t b d))
