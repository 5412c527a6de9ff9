use Rattle.node_reader.proofs.Operands.{no_word}
use Rattle.node_reader.proofs.operand.after_word.Goals as goal

pub returns-then-begins_with_digit-clause-none : goal.returns-then-begins_with_digit-clause-none
returns-then-begins_with_digit-clause-none c = no_word c.args.word.now c.args.text.now c.in_ok-rest.rest.now c.begins_with_digit.result c.in_ok-rest.ensures.some c.begins_with_digit.ensures c.if-begins_with_digit.true
