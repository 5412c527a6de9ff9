use Rattle.std.proofs.Common.{ap, ◌∙◌}
use Rattle.node_tree.specs.Tree.{block}
use Rattle.node_tree.proofs.Direct.{block_append}
use Rattle.reform_blocks.proofs.shapes.append.Goals as goal

pub returns : goal.returns
returns c = ap block c.in_ok-whole.ensures ∙ block_append c.args.first c.args.then
