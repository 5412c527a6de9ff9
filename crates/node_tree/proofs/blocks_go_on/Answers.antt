use Rattle.nu_rows.proofs.Places.{from_begin, from_place}
use Rattle.node_tree.specs.Nodes.{block_row}
use Rattle.node_tree.proofs.Direct.{block_direct}
use Rattle.node_tree.proofs.blocks_go_on.Goals as goal

pub returns : goal.returns
returns c = record {
  begin = λ l rows b p h s n. from_begin rows n (block_row l b) p h s;
  back = λ l rows b p q how s n. from_place rows n (block_row l b) p q ((block_direct l b).at p) how s;
}
