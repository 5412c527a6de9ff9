use Rattle.std.proofs.Common.{sym, ◌∙◌}
use Rattle.nu_value.specs.Same.{eq}
use Rattle.rt_dict.proofs.Loops.{values_go_on, values_stop}
use Rattle.rt_dict.proofs.views.among_values.Goals as goal

pub returns-in_default-same_value : goal.returns-in_default-same_value
returns-in_default-same_value c =
    sym (values_stop (λ x. eq c.args.heap.now x c.args.value.now) c.args.pairs.now c.loop-place.place c.in-Some.field-0-0.now c.in-Some.field-0-1.now c.in-Some.item.now c.same_value.result (sym c.in-Some.ensures) (sym c.same_value.ensures) c.in_default-same_value.not-Different)
    ∙ c.loop-place.invariant

pub loop-place-preserved : goal.loop-place-preserved
loop-place-preserved c =
    sym (values_go_on (λ x. eq c.args.heap.now x c.args.value.now) c.args.pairs.now c.loop-place.place c.in-Some.field-0-0.now c.in-Some.field-0-1.now c.in-Some.item.now (sym c.in-Some.ensures) (sym c.in-Different.ensures))
    ∙ c.loop-place.invariant
