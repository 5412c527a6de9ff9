use Rattle.std.proofs.Common.{arith}
use Rattle.c_reader.proofs.Operations.{no_argument}
use Rattle.c_reader.proofs.argument.arguments.Goals as goal

pub returns-in_default-2-clause-none : goal.returns-in_default-2-clause-none
returns-in_default-2-clause-none c =
    no_argument c.args.registers c.args.text.now c.loop-behind.rest.now c.in-Some.behind.now c.loop-behind.given (omega (arith, c.ranges.registers.fits)) c.loop-behind.invariant.spelled c.loop-behind.invariant.each c.loop-behind.invariant.ends
    c.in-Some.ensures.some (rw c.in_default-2.is at c.in_ok-one.ensures.none)
