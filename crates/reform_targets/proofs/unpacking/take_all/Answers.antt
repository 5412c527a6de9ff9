use Rattle.std.proofs.Common.{◌≡◌, ◌+◌, arith}
use Rattle.node_tree.specs.Tree.{block}
use Rattle.reform_targets.proofs.Unpacked.{first_items, next_items, next_number}
use Rattle.reform_targets.proofs.unpacking.take_all.Goals as goal

pub loop-taker-init : goal.loop-taker-init
loop-taker-init c = (first_items (block c.args.first), omega arith)

pub loop-taker-preserved : goal.loop-taker-preserved
loop-taker-preserved c = (
  next_items c.args.line c.args.list c.args.number c.loop-taker.at c.loop-taker.yielded c.in-Some.taker (block c.args.first) (block c.loop-taker.whole) (block c.in_ok-one.one) (block c.in_ok-whole.whole) c.loop-taker.invariant.0 c.loop-taker.invariant.1 c.in_ok-one.ensures c.in_ok-whole.ensures,
  next_number c.args.number c.loop-taker.at c.in_ok-at.at c.loop-taker.yielded c.in-Some.taker c.loop-taker.invariant.1 c.in_ok-at.ensures,
)
