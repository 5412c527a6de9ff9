use Rattle.std.proofs.Common.{◌∙◌, ap}
use Rattle.node_tree.specs.Blocks.{alone}
use Rattle.node_tree.specs.Blocks as tree
use Rattle.node_tree.specs.Tree.{block}
use Rattle.reform_blocks.specs.Parts.{carrier}
use Rattle.reform_values.proofs.Yielded.{delegated}
use Rattle.reform_values.proofs.pauses.delegate.Goals as goal

pub returns : goal.returns
returns c =
    c.left_in.ensures
    ∙ delegated c.args.line c.args.next (carrier c.args.part) (block c.in_ok-whole.whole) (block c.in_ok-first.first) (block c.in_ok-rest.rest) c.in_ok-whole.ensures (c.in_ok-first.ensures ∙ ap (λ f. tree.append (block c.args.part.block) (alone f)) c.in_ok-iterator.ensures) c.in_ok-rest.ensures
