use Rattle.std.proofs.Common.{◌≡◌, ◌+◌, ◌*◌, ◌≤◌, drop, length}
use Rattle.nu_value.specs.Same.{eq_at}
use Rattle.op_rules.specs.Ordering.{items_order, order_at}
use Rattle.rt_seq.proofs.ordering.+ordering.Given as goal

abbrev pub decreases-order_at : goal.decreases-order_at
decreases-order_at l = 4 * l.room + 2

abbrev pub decreases-order_objects : goal.decreases-order_objects
decreases-order_objects l = 4 * l.room + 1

abbrev pub decreases-order_inside : goal.decreases-order_inside
decreases-order_inside l = 4 * l.room

abbrev pub decreases-order_items : goal.decreases-order_items
decreases-order_items l = 4 * l.room + 3

abbrev pub invariant-order_items-loop-place : goal.invariant-order_items-loop-place
invariant-order_items-loop-place l =
    record {
      within : l.place ≤ length l.ys;
      rest : items_order l.op (eq_at l.room l.heap) (order_at l.room l.op l.heap) (drop l.place l.xs) (drop l.place l.ys) ≡ items_order l.op (eq_at l.room l.heap) (order_at l.room l.op l.heap) l.xs l.ys;
    }
