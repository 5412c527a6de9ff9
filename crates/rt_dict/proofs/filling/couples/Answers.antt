use Rattle.std.proofs.Common.{sym, ◌∙◌}
use Rattle.rt_dict.proofs.Loops.{couples_go_on}
use Rattle.rt_dict.proofs.filling.couples.Goals as goal

pub loop-place-preserved : goal.loop-place-preserved
loop-place-preserved c =
    rw c.in_ok-push_couple.ensures
    (couples_go_on c.loop-place.list.items c.args.pairs.now c.loop-place.place c.in-Some.field-0-0.now c.in-Some.given.now c.in-Some.value.now (sym c.in-Some.ensures) ∙ c.loop-place.invariant)
