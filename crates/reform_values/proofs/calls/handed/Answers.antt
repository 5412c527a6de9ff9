use Rattle.std.proofs.Common.{refl}
use Rattle.node_tree.specs.Tree.{block}
use Rattle.reform_values.proofs.Filled.{none_behind}
use Rattle.reform_values.proofs.Handed.{next_handed, next_begun}
use Rattle.reform_values.proofs.calls.handed.Goals as goal

pub loop-arg-init : goal.loop-arg-init
loop-arg-init c = (none_behind (block c.args.first), refl)

pub loop-arg-preserved : goal.loop-arg-preserved
loop-arg-preserved c = (
  next_handed c.args.line c.args.next c.loop-arg.yielded c.in-Some.arg c.loop-arg.begun (block c.args.first) (block c.loop-arg.whole) (block c.in_ok-one.one) (block c.in_ok-whole.whole) c.loop-arg.invariant.0 c.loop-arg.invariant.1 c.in_ok-one.ensures.0 c.in_ok-whole.ensures,
  next_begun c.loop-arg.yielded c.in-Some.arg c.loop-arg.begun c.in_ok-one.there c.loop-arg.invariant.1 c.in_ok-one.ensures.1,
)
