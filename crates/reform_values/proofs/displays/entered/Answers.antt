use Rattle.node_tree.specs.Tree.{block}
use Rattle.reform_values.proofs.Filled.{none_behind, next_entered}
use Rattle.reform_values.proofs.displays.entered.Goals as goal

pub loop-entry-init : goal.loop-entry-init
loop-entry-init c = none_behind (block c.args.first)

pub loop-entry-preserved : goal.loop-entry-preserved
loop-entry-preserved c =
    next_entered c.args.line c.args.next c.loop-entry.yielded c.in-Some.entry (block c.args.first) (block c.loop-entry.whole) (block c.in_ok-one.one) (block c.in_ok-whole.whole) c.loop-entry.invariant c.in_ok-one.ensures c.in_ok-whole.ensures
