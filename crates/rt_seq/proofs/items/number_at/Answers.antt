use Rattle.std.proofs.Common.{pos, ◌*◌, ◌+ℤ◌, ◌-ℤ◌, FitsSigned, sym, ap, subst, ◌∙◌}
use Rattle.std.specs.Int.{w128}
use Rattle.std.specs.Prelude.{unsigned_abs}
use Rattle.std.proofs.lemmas.Int.{to_z-of_z}
use Rattle.rt_seq.proofs.Numbers.{place_short, place_up, place_down, up_is, down_is}
use Rattle.rt_seq.proofs.items.number_at.Goals as goal

pub overflow_mul-offset : goal.overflow_mul-offset
overflow_mul-offset c =
    rw (c.unsigned_abs.ensures.value, to_z-of_z w128 c.args.step c.ranges.step)
    (place_short c.args.start c.args.stop c.args.step c.args.place c.ranges.start c.ranges.stop c.requires)

pub above-requires : goal.above-requires
above-requires c =
    rw (c.unsigned_abs.ensures.value, to_z-of_z w128 c.args.step c.ranges.step)
    (subst (λ z. FitsSigned w128 (z +ℤ pos (c.args.place * unsigned_abs c.args.step))) (sym (to_z-of_z w128 c.args.start c.ranges.start))
    (place_up c.args.start c.args.stop c.args.step c.args.place c.ranges.start c.ranges.stop c.requires (rw (sym (to_z-of_z w128 c.args.step c.ranges.step)) c.if-step-gt0.true)))

pub under-requires : goal.under-requires
under-requires c =
    rw (c.unsigned_abs.ensures.value, to_z-of_z w128 c.args.step c.ranges.step)
    (subst (λ z. FitsSigned w128 (z -ℤ pos (c.args.place * unsigned_abs c.args.step))) (sym (to_z-of_z w128 c.args.start c.ranges.start))
    (place_down c.args.start c.args.stop c.args.step c.args.place c.ranges.start c.ranges.stop c.requires (rw (sym (to_z-of_z w128 c.args.step c.ranges.step)) c.if-step-gt0.false)))

pub returns-then-step-gt0 : goal.returns-then-step-gt0
returns-then-step-gt0 c =
    rw (to_z-of_z w128 c.above.result (record { sfits = c.above.type_inv }), c.above.ensures, c.unsigned_abs.ensures.value, to_z-of_z w128 c.args.step c.ranges.step)
    (ap (λ z. z +ℤ pos (c.args.place * unsigned_abs c.args.step)) (to_z-of_z w128 c.args.start c.ranges.start)
    ∙ up_is c.args.start c.args.step c.args.place (rw (sym (to_z-of_z w128 c.args.step c.ranges.step)) c.if-step-gt0.true))

pub returns-else-step-gt0 : goal.returns-else-step-gt0
returns-else-step-gt0 c =
    rw (to_z-of_z w128 c.under.result (record { sfits = c.under.type_inv }), c.under.ensures, c.unsigned_abs.ensures.value, to_z-of_z w128 c.args.step c.ranges.step)
    (ap (λ z. z -ℤ pos (c.args.place * unsigned_abs c.args.step)) (to_z-of_z w128 c.args.start c.ranges.start)
    ∙ down_is c.args.start c.args.step c.args.place (rw (sym (to_z-of_z w128 c.args.step c.ranges.step)) c.if-step-gt0.false))
