use Rattle.std.proofs.Common.{sym, ◌∙◌}
use Rattle.rt_dict.proofs.Loops.{put_goes_on}
use Rattle.rt_dict.proofs.methods.copy_pairs.Goals as goal

pub loop-place-preserved : goal.loop-place-preserved
loop-place-preserved c =
    rw c.in_ok-put_copy.ensures
    (put_goes_on c.loop-place.all c.args.pairs.now c.loop-place.place c.in-Some.key.now c.in-Some.given.now c.in-Some.value.now (sym c.in-Some.ensures) ∙ c.loop-place.invariant)
