use Rattle.std.proofs.Common.{◌∙◌, map}
use Rattle.node_tree.specs.Tree.{form, block}
use Rattle.reform_blocks.specs.Parts.{carrier}
use Rattle.reform_values.proofs.Joined.{operated}
use Rattle.reform_values.proofs.operations.operate.Goals as goal

pub returns : goal.returns
returns c =
    c.left_in.ensures
    ∙ operated c.args.next c.args.line c.args.op (map carrier c.args.parts.items) c.in_ok-first.values.items (form c.in_ok-made.made) (block c.in_ok-whole.whole) (block c.in_ok-first.first) c.in_ok-whole.ensures c.in_ok-first.ensures.0 c.in_ok-first.ensures.1 c.in_ok-made.ensures
