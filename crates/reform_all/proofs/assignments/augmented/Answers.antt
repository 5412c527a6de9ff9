use Rattle.std.proofs.Common.{◌≤◌, arith}
use Rattle.reform_all.proofs.Quiets.{augment_quiet}
use Rattle.reform_all.proofs.Assigns.{augments}
use Rattle.reform_all.proofs.assignments.augmented.Goals as goal

pub returns : goal.returns
returns c = λ names holds.
    let drawn : c.expression.new.temps ≤ c.augment.new.temps = omega (arith, c.in_ok-block.ensures.drawn) in
    augments names c.args.line c.args.to.now c.args.operator c.augmented_op.result c.args.x.now c.args.temps.now c.expression.new.temps c.augment.new.temps c.in_ok-place.place c.in_ok-right.right c.in_ok-block.block
    c.augmented_op.ensures drawn c.in_ok-place.ensures (c.in_ok-right.ensures names holds) c.in_ok-block.ensures.carries
    (augment_quiet _ _ _ _ c.args.operator c.augmented_op.result c.in_ok-place.place _ _ _ c.in_ok-right.right.block c.in_ok-block.block c.augmented_op.ensures c.in_ok-block.ensures.contents)
