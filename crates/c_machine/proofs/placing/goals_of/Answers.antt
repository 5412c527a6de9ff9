use Rattle.std.proofs.Common.{◌++◌, ◌∷◌, [], ◌∙◌, ap}
use Rattle.std.specs.BTreeMap.{get}
use Rattle.std.specs.Ordering.{nat_cmp}
use Rattle.c_machine.proofs.Marks.{image_more}
use Rattle.c_machine.proofs.placing.goals_of.Goals as goal

pub loop-label-preserved : goal.loop-label-preserved
loop-label-preserved c =
    image_more (get nat_cmp c.args.marks.now) c.args.labels.now c.loop-label.label-index 0 c.loop-label.goals.items _ _ c.loop-label-test.true
    (c.in_ok-push.ensures.items ∙ ap (λ g. c.loop-label.goals.items ++ g ∷ []) c.goal_of.ensures) c.loop-label.invariant
