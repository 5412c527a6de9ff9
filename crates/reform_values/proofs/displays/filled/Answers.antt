use Rattle.node_tree.specs.Tree.{block}
use Rattle.reform_values.proofs.Filled.{none_behind, next_filled}
use Rattle.reform_values.proofs.displays.filled.Goals as goal

pub loop-item-init : goal.loop-item-init
loop-item-init c = none_behind (block c.args.first)

pub loop-item-preserved : goal.loop-item-preserved
loop-item-preserved c =
    next_filled c.args.line c.args.next c.loop-item.yielded c.in-Some.item (block c.args.first) (block c.loop-item.whole) (block c.in_ok-one.one) (block c.in_ok-whole.whole) c.loop-item.invariant c.in_ok-one.ensures c.in_ok-whole.ensures
