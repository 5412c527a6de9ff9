use Rattle.std.proofs.Common.{arith}
use Rattle.c_reader.proofs.Operands.{jump_label}
use Rattle.c_reader.proofs.operand.jump.Goals as goal

pub returns-in_default-number-clause-none : goal.returns-in_default-number-clause-none
returns-in_default-number-clause-none c = λ a label rest s.
    c.in_default-number.ensures.none label rest
    (jump_label c.args.registers c.args.opening.now c.args.closing.now c.args.text.now c.in-Some.behind.now c.in-Some.value a label rest (omega (arith, c.ranges.registers.fits)) c.requires (rw c.in-Some.is at c.in_ok-value.ensures.some) s)
