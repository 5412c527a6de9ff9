use Rattle.std.proofs.Common.{Some, IfOk, slice_get, refl, sym, ap, subst, ◌∙◌}
use Rattle.std.specs.Int.{w128}
use Rattle.std.proofs.lemmas.Int.{to_z-of_z}
use Rattle.nu_value.specs.declared.object.Object.TheVariants as object
use Rattle.op_forms.specs.Doing.{Did}
use Rattle.rt_seq.specs.Steps.{steps}
use Rattle.rt_seq.proofs.Ended.{turned}
use Rattle.rt_seq.proofs.Stepping.{next_is}
use Rattle.rt_seq.proofs.steps.next_on.Goals as goal

pub returns-in_ok-found-in-Some-Iterator : goal.returns-in_ok-found-in-Some-Iterator
returns-in_ok-found-in-Some-Iterator c =
    let p = to_z-of_z w128 c.get-place.result (record { sfits = c.get-place.type_inv }) ∙ c.get-place.ensures in
    let there = sym c.in-Some-Iterator.ensures ∙ ap Some (c.in-Some-Iterator.field-0-is ∙ ap (object.Iterator c.in-Some-Iterator.over c.in-Some-Iterator.place c.in-Some-Iterator.size) c.in-Some-Iterator.field-0-3-test) in
    turned c.step.result _ (steps c.args.heap.now c.args.iterator c.in-Some-Iterator.place c.in-Some-Iterator.size c.in_ok-found-in-Some-Iterator.found) c.args.heap.now c.step.new.heap
    (next_is c.args.heap.now c.args.iterator c.in-Some-Iterator.place c.in-Some-Iterator.size c.in-Some-Iterator.over (slice_get c.args.heap.now c.args.iterator) c.in_ok-found-in-Some-Iterator.found there
    (c.in_ok-found-in-Some-Iterator.ensures ∙ rw (c.deref.ensures, p) refl))
    (subst (λ z. IfOk c.step.result (λ e. Did (steps c.args.heap.now c.args.iterator z c.in-Some-Iterator.size c.in_ok-found-in-Some-Iterator.found) c.args.heap.now c.step.new.heap e)) p c.step.ensures)
