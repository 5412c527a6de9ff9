use Rattle.node_reader.proofs.Operands.{no_ended_string, string_of}
use Rattle.node_reader.proofs.operand.ended_string.Goals as goal

pub returns-in_default-clause-none : goal.returns-in_default-clause-none
returns-in_default-clause-none c = λ bytes rest s. (rw c.in_default.is at c.in_ok-bytes.ensures.none) bytes rest (string_of c.args.text.now bytes rest s)

pub returns-then-begins_with_digit-clause-none : goal.returns-then-begins_with_digit-clause-none
returns-then-begins_with_digit-clause-none c =
    no_ended_string c.args.text.now c.in-Some.rest.now c.in-Some.bytes c.begins_with_digit.result (rw c.in-Some.is at c.in_ok-bytes.ensures.some) c.begins_with_digit.ensures c.if-begins_with_digit.true
