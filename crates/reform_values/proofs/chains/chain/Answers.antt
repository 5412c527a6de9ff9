use Rattle.std.proofs.Common.{◌∙◌, map}
use Rattle.node_tree.specs.Tree.{block}
use Rattle.reform_blocks.specs.Parts.{carrier}
use Rattle.reform_values.specs.Linking.{linked_of}
use Rattle.reform_values.proofs.Linked.{chained}
use Rattle.reform_values.proofs.chains.chain.Goals as goal

pub returns : goal.returns
returns c =
    c.left_in.ensures
    ∙ chained c.args.line c.args.next (carrier c.args.first) (map linked_of c.args.links.items) (block c.in_ok-whole.whole) (block c.in_ok-rest.rest) (map block c.in_ok-blocks.blocks.items) c.in_ok-whole.ensures c.in_ok-rest.ensures c.in_ok-blocks.ensures
