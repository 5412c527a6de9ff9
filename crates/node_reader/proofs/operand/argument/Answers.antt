use Rattle.node_reader.proofs.Operands.{no_argument}
use Rattle.node_reader.proofs.operand.argument.Goals as goal

pub returns-clause-none : goal.returns-clause-none
returns-clause-none c = no_argument c.args.text.now (rw c.in_default.is at c.in_ok-name.ensures.none) (rw c.in_default-2.is at c.in_ok-value.ensures.none)
