use Rattle.std.proofs.Common.{◌≡◌, IfOk, None, sym, subst, ◌∙◌}
use Rattle.nu_value.specs.Same.{eq_at, object_of}
use Rattle.op_forms.specs.Signs.{sign_of}
use Rattle.op_rules.specs.Kinds.{no_order}
use Rattle.op_rules.specs.Ordering.{inside_order, order_at}
use Rattle.rt_seq.specs.Alike.{insides}
use Rattle.rt_seq.proofs.Deciding.{inside_none, inside_more, items_differ, apart_is}
use Rattle.rt_seq.proofs.ordering.+ordering.Goals as goal

pub order_inside-returns-then-room-eq0 : goal.order_inside-returns-then-room-eq0
order_inside-returns-then-room-eq0 t c = sym (inside_none c.args.room c.args.op c.args.heap.now c.args.xs.now c.args.ys.now c.if-room-eq0.true)

pub order_inside-returns-else-room-eq0 : goal.order_inside-returns-else-room-eq0
order_inside-returns-else-room-eq0 t c =
    subst (λ x. IfOk c.order_items.result (λ e. e ≡ x)) (sym (inside_more c.args.room c.args.op c.args.heap.now c.args.xs.now c.args.ys.now c.if-room-eq0.false)) c.order_items.ensures

pub order_items-returns-in-Different : goal.order_items-returns-in-Different
order_items-returns-in-Different t c =
    subst (λ x. IfOk c.order_at.result (λ e. e ≡ x))
    (sym (items_differ c.args.op (eq_at c.args.room c.args.heap.now) (order_at c.args.room c.args.op c.args.heap.now) c.args.xs.now c.args.ys.now c.loop-place.place c.in-Some-Some.x.now c.in-Some-Some.y.now c.in-Some-Some.ensures.lookup.3.0 c.in-Some-Some.ensures.lookup.1 c.in-Some-Some.ensures'.lookup.3.0 c.in-Some-Some.ensures'.lookup.1 c.in-Different.ensures)
    ∙ c.loop-place.invariant.rest)
    c.order_at.ensures

pub order_objects-returns-in-None : goal.order_objects-returns-in-None
order_objects-returns-in-None t c =
    let apart : insides (object_of c.args.heap.now c.args.a.now) (object_of c.args.heap.now c.args.b.now) ≡ None = rw (← c.object_of.ensures, ← c.object_of-2.ensures) (sym c.in-None.ensures) in
    subst (λ x. IfOk c.unordered.result (λ e. e ≡ x))
    (sym (apart_is (no_order (sign_of c.args.op) c.args.heap.now c.args.a.now c.args.b.now) (inside_order c.args.room c.args.op c.args.heap.now) (object_of c.args.heap.now c.args.a.now) (object_of c.args.heap.now c.args.b.now) apart))
    c.unordered.ensures
