use Rattle.node_tree.proofs.Direct.{block_append}
use Rattle.node_tree.proofs.blocks_append.Goals as goal

pub returns : goal.returns
returns c = block_append
