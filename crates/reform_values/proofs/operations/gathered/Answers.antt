use Rattle.node_tree.specs.Tree.{block}
use Rattle.reform_values.proofs.Joined.{next_joined, next_values}
use Rattle.reform_values.proofs.operations.gathered.Goals as goal

pub loop-part-preserved : goal.loop-part-preserved
loop-part-preserved c = (
  next_joined c.loop-part.yielded c.in-Some.part (block c.loop-part.whole) (block c.in_ok-whole.whole) c.loop-part.invariant.0 c.in_ok-whole.ensures,
  next_values c.loop-part.yielded c.in-Some.part c.loop-part.values.items c.push.new.self.items c.loop-part.invariant.1 c.in_ok-push.ensures.items,
)
