use Rattle.std.proofs.Common.{◌≡◌, ◌+◌, ◌*◌, drop}
use Rattle.op_rules.specs.Keys as spec
use Rattle.rt_dict.proofs.keys.+unhashable.Given as goal

abbrev pub decreases-unhashable_at : goal.decreases-unhashable_at
decreases-unhashable_at l = 3 * l.room + 1

abbrev pub decreases-unhashable_in : goal.decreases-unhashable_in
decreases-unhashable_in l = 3 * l.room

abbrev pub decreases-first_unhashable : goal.decreases-first_unhashable
decreases-first_unhashable l = 3 * l.room + 2

abbrev pub invariant-first_unhashable-loop-place : goal.invariant-first_unhashable-loop-place
invariant-first_unhashable-loop-place l =
    spec.first_unhashable (spec.unhashable_at l.room l.heap) (drop l.place l.items) ≡ spec.first_unhashable (spec.unhashable_at l.room l.heap) l.items
