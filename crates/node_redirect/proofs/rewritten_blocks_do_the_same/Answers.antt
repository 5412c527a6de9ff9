use Rattle.node_redirect.proofs.Redirected.{block_same}
use Rattle.node_redirect.proofs.rewritten_blocks_do_the_same.Goals as goal

pub returns : goal.returns
returns c = block_same
