use Rattle.c_reader.proofs.Operands.{no_close}
use Rattle.c_reader.proofs.operand.text_constant.Goals as goal

pub returns-in_default-after-clause-none : goal.returns-in_default-after-clause-none
returns-in_default-after-clause-none c =
    no_close c.args.registers c.args.text.now c.in-Some.rest.now c.in-Some-2.bytes c.in-Some-2.rest.now c.in-Some.ensures.some (rw c.in-Some-2.is at c.in_ok-bytes.ensures.some) c.in_default-after.ensures.none
