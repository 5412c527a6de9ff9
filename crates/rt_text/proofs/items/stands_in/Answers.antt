use Rattle.std.proofs.Common.{sym, ◌∙◌}
use Rattle.rt_text.proofs.Places.{stands_by}
use Rattle.rt_text.proofs.items.stands_in.Goals as goal

pub returns : goal.returns
returns c =
    c.is_some.ensures ∙ stands_by c.args.part.now c.args.text.now c.first_cut.result (sym c.is_empty.ensures ∙ c.if-is_empty.false) c.first_cut.ensures.cases
