use Rattle.node_reader.proofs.Operands.{no_constant}
use Rattle.node_reader.proofs.operand.constant.Goals as goal

pub returns-clause-none : goal.returns-clause-none
returns-clause-none c = no_constant c.args.text.now c.in_default.ensures.none c.in_default-truth.ensures.none c.in_default-int.ensures.none (rw c.in_default-2.is at c.in_ok-bytes.ensures.none)
