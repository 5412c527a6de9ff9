use Rattle.std.proofs.Common.{◌∙◌, ap, map}
use Rattle.node_tree.specs.Blocks.{alone}
use Rattle.node_tree.specs.Blocks as tree
use Rattle.node_tree.specs.Tree.{block}
use Rattle.reform_blocks.specs.Parts.{carrier}
use Rattle.reform_values.specs.Passing.{passed_of}
use Rattle.reform_values.proofs.Handed.{called}
use Rattle.reform_values.proofs.calls.call.Goals as goal

pub returns : goal.returns
returns c =
    c.left_in.ensures
    ∙ called c.args.line c.args.next (carrier c.args.function) (map passed_of c.args.args.items) c.in_ok-first-2.begun (block c.in_ok-first.first) (block c.in_ok-first-2.first) (block c.in_ok-last-2.last) (block c.in_ok-last.last) (block c.in_ok-whole.whole) c.in_ok-whole.ensures c.in_ok-first-2.ensures.0 (c.in_ok-first.ensures ∙ ap (λ f. tree.append (block c.args.function.block) (alone f)) c.on_none.ensures) c.in_ok-first-2.ensures.1 c.in_ok-last-2.ensures (c.in_ok-last.ensures ∙ ap alone c.in_ok-made.ensures)
