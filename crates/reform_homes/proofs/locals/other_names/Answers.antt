use Rattle.std.proofs.Common.{rules, ap, ◌∙◌, [], ◌∷◌, ◌++◌, cond}
use Rattle.reform_homes.specs.Places.{is_other}
use Rattle.reform_homes.proofs.Standing.{texts_step}
use Rattle.reform_homes.proofs.locals.other_names.Goals as goal

pub loop-name-preserved : goal.loop-name-preserved
loop-name-preserved c =
    texts_step (is_other c.args.kind c.args.this c.args.captured.now c.args.params.now) c.args.names.now c.loop-name.name-index c.name-item.result c.loop-name.other _ _ (search rules) c.name-item.is c.loop-name.invariant
    (c.in_ok-push_if.ensures ∙ ap (λ b. cond b (c.loop-name.other ++ c.name-item.result.name ∷ []) c.loop-name.other) c.is_other-chosen.ensures)
