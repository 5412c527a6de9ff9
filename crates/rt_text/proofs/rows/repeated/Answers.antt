use Rattle.std.proofs.Common.{◌∙◌, sym}
use Rattle.op_rules.specs.TextRows as spec
use Rattle.rt_text.proofs.Copies.{repeated_nothing}
use Rattle.rt_text.proofs.rows.repeated.Goals as goal

pub returns-then-is_empty : goal.returns-then-is_empty
returns-then-is_empty c =
    rw (repeated_nothing c.args.text.now (spec.copy_count c.args.number) (sym c.is_empty.ensures ∙ c.if-is_empty.true)) c.give_text.ensures
