use Rattle.std.proofs.Common.{sym, ◌∙◌}
use Rattle.op_rules.specs.Keys as spec
use Rattle.rt_dict.proofs.Loops.{unhashable_none, unhashable_more, first_goes_on, first_stops}
use Rattle.rt_dict.proofs.keys.+unhashable.Goals as goal

pub first_unhashable-returns-in-Some-unhashable_at : goal.first_unhashable-returns-in-Some-unhashable_at
first_unhashable-returns-in-Some-unhashable_at t c =
    sym (first_stops (spec.unhashable_at c.args.room c.args.heap.now) c.args.items.now c.loop-place.place c.in-Some.item.now c.in-Some-unhashable_at.number (sym c.in-Some.ensures) (sym c.in-Some-unhashable_at.ensures)) ∙ c.loop-place.invariant

pub first_unhashable-loop-place-preserved : goal.first_unhashable-loop-place-preserved
first_unhashable-loop-place-preserved t c =
    sym (first_goes_on (spec.unhashable_at c.args.room c.args.heap.now) c.args.items.now c.loop-place.place c.in-Some.item.now (sym c.in-Some.ensures) (sym c.in-None.ensures)) ∙ c.loop-place.invariant

pub unhashable_in-returns-then-room-eq0 : goal.unhashable_in-returns-then-room-eq0
unhashable_in-returns-then-room-eq0 t c = sym (unhashable_none c.args.room c.args.heap.now c.args.items.now c.if-room-eq0.true)

pub unhashable_in-returns-else-room-eq0 : goal.unhashable_in-returns-else-room-eq0
unhashable_in-returns-else-room-eq0 t c =
    c.first_unhashable.ensures ∙ sym (unhashable_more c.args.room c.args.heap.now c.args.items.now c.if-room-eq0.false)
