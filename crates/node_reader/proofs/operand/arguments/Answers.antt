use Rattle.node_reader.proofs.Lists.{no_arguments}
use Rattle.node_reader.proofs.operand.arguments.Goals as goal

pub returns-in_default-2-clause-none : goal.returns-in_default-2-clause-none
returns-in_default-2-clause-none c =
    no_arguments c.args.text.now c.loop-behind.rest.now c.in-Some.behind.now c.loop-behind.given c.loop-behind.invariant.spelled c.loop-behind.invariant.each c.loop-behind.invariant.ends
    c.in-Some.ensures.some (rw c.in_default-2.is at c.in_ok-one.ensures.none)
