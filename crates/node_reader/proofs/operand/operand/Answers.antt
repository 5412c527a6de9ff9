use Rattle.node_reader.proofs.Operands.{no_operand}
use Rattle.node_reader.proofs.operand.operand.Goals as goal

pub returns-clause-none : goal.returns-clause-none
returns-clause-none c = no_operand c.args.text.now c.in_default.ensures.none (rw c.in_default-2.is at c.in_ok-constant.ensures.none)
