use Rattle.std.proofs.Common.{◌∙◌}
use Rattle.reform_values.proofs.Linked.{first_nested, next_nested, last_nested}
use Rattle.reform_values.proofs.chains.nested_before.Goals as goal

pub loop-step-init : goal.loop-step-init
loop-step-init c = first_nested c.args.line c.args.next c.args.blocks.items c.args.last

pub loop-step-preserved : goal.loop-step-preserved
loop-step-preserved c =
    next_nested c.args.line c.args.next c.loop-step.left.items c.pop.new.self.items c.in-Some.step c.loop-step.rest c.in_ok-rest.rest c.in-Some.ensures.items c.in_ok-rest.ensures
    ∙ c.loop-step.invariant
