-- The lists of nodes that code holds, as blocks.
use Rattle.std.specs.Prelude.{ℕ, List, [], ◌∷◌, Option, Some, None, slice_get}
use Rattle.node_tree.specs.declared.node.Node.{Node, Constant, Copy, Do, Call, Yield, If', Loop', Leave, Catch', Return, Raise, Unset, Row_of-Node, end_of-Node, more_of-Node}
use Rattle.node_tree.specs.declared.script.NodeCode.{NodeCode}
use Rattle.node_tree.specs.Blocks as tree

abbrev mutual
  pub form : Node → tree.Form
  form (Constant to c) = tree.Constant to c
  form (Copy to from) = tree.Copy to from
  form (Do to line o args) = tree.Do to line o args
  form (Call to line function args) = tree.Call to line function args
  form (Yield to line a) = tree.Yield to line a
  form (If' test m y n z) = tree.If test (row_block y) (row_block z)
  form (Loop' m body) = tree.Loop (row_block body)
  form (Leave levels) = tree.Leave levels
  form (Catch' to m body n handler) = tree.Catch to (row_block body) (row_block handler)
  form (Return a) = tree.Return a
  form (Raise a) = tree.Raise a
  form (Unset to) = tree.Unset to

  pub row_block : {m : _} → Row_of-Node m → tree.Block
  row_block end_of-Node = tree.Stop
  row_block (more_of-Node x xs) = tree.Follow (form x) (row_block xs)

abbrev pub block : List Node → tree.Block
block [] = tree.Stop
block (x ∷ xs) = tree.Follow (form x) (block xs)

abbrev pub block_of : Option NodeCode → tree.Block
block_of (Some code) = block code.body
block_of None = tree.Stop

-- the block of a code
abbrev pub code_block : List NodeCode → ℕ → tree.Block
code_block codes code = block_of (slice_get codes code)
