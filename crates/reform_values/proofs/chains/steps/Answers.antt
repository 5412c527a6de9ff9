use Rattle.reform_values.proofs.Linked.{next_steps, next_value}
use Rattle.reform_values.proofs.chains.steps.Goals as goal

pub loop-link-preserved : goal.loop-link-preserved
loop-link-preserved c = (
  next_steps c.args.line c.args.next c.args.first c.loop-link.left c.loop-link.yielded c.in-Some.link c.loop-link.blocks.items c.push.new.self.items c.in_ok-block.block c.loop-link.invariant.0 c.loop-link.invariant.1 c.in_ok-block.ensures.0 c.in_ok-push.ensures.items,
  next_value c.args.first c.loop-link.yielded c.in-Some.link c.in_ok-block.right c.in_ok-block.ensures.1,
)
