use Rattle.std.proofs.Common.{◌++◌, ◌∷◌, [], ◌∙◌, ap}
use Rattle.std.specs.BTreeMap.{get}
use Rattle.std.specs.Ordering.{nat_cmp}
use Rattle.c_machine.specs.Starting.{placed_by}
use Rattle.c_machine.proofs.Marks.{statements_do, statements_label}
use Rattle.c_machine.proofs.placing.placed_all.Goals as goal

pub loop-line-preserved-in_ok-push : goal.loop-line-preserved-in_ok-push
loop-line-preserved-in_ok-push c =
    statements_do (placed_by (get nat_cmp c.args.marks.now)) _ _ c.in-Do.statement c.in-Some.line _ _ c.in-Some.ensures c.in-Do.is
    (c.in_ok-push.ensures.items ∙ ap (λ p. c.loop-line.backwards.items ++ p ∷ []) c.in_ok-placed.ensures) ∙ c.loop-line.invariant

pub loop-line-preserved : goal.loop-line-preserved
loop-line-preserved c =
    statements_label (placed_by (get nat_cmp c.args.marks.now)) _ _ c.in_default-line.field-0 c.in-Some.line c.loop-line.backwards.items c.in-Some.ensures c.in_default-line.is ∙ c.loop-line.invariant
