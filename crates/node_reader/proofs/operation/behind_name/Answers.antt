use Rattle.std.proofs.Common.{ap, ◌∙◌, ◌++◌}
use Rattle.node_reader.proofs.Names.{name_letter, name_digit}
use Rattle.node_reader.proofs.operation.behind_name.Goals as goal

pub returns-then-begins_with_letter-clause-none : goal.returns-then-begins_with_letter-clause-none
returns-then-begins_with_letter-clause-none c =
    name_letter c.args.text.now c.in_ok-rest.rest.now c.args.op c.begins_with_letter.result (c.in_ok-rest.ensures.some ∙ ap (λ l. l ++ c.in_ok-rest.rest.now) (c.as_bytes.ensures.value ∙ c.name.ensures)) c.begins_with_letter.ensures c.if-begins_with_letter.true

pub returns-then-begins_with_digit-clause-none : goal.returns-then-begins_with_digit-clause-none
returns-then-begins_with_digit-clause-none c =
    name_digit c.args.text.now c.in_ok-rest.rest.now c.args.op c.begins_with_digit.result (c.in_ok-rest.ensures.some ∙ ap (λ l. l ++ c.in_ok-rest.rest.now) (c.as_bytes.ensures.value ∙ c.name.ensures)) c.begins_with_digit.ensures c.if-begins_with_digit.true
