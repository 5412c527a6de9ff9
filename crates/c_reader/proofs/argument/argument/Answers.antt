use Rattle.std.proofs.Common.{arith, ◌++◌}
use Rattle.std.specs.Prelude.{codes}
use Rattle.c_reader.proofs.Operands.{no_digit}
use Rattle.c_reader.proofs.argument.argument.Goals as goal

pub returns-then-begins_with_digit-clause-none : goal.returns-then-begins_with_digit-clause-none
returns-then-begins_with_digit-clause-none c =
    no_digit c.args.registers (codes ", " ++ c.args.text.now) c.in-Some.argument c.in-Some.rest.now c.begins_with_digit.result (omega (arith, c.ranges.registers.fits)) (rw c.in-Some.is at c.in_ok-argument.ensures.some) c.begins_with_digit.ensures
    c.if-begins_with_digit.true
