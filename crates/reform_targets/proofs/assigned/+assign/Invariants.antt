use denote.Param.Weighed.{most}
use Rattle.std.proofs.Common.{◌≡◌, ◌≤◌, length}
use Rattle.carried_codes.specs.Places as places
use Rattle.reform_targets.specs.declared.place.Place.{size-Place}
use Rattle.reform_targets.specs.Places.{places_of}
use Rattle.reform_targets.proofs.Turned.{taken_from}
use Rattle.reform_targets.proofs.assigned.+assign.Given as goal

-- those that are done, and those that are left, the first of them at the end, are all of them
abbrev pub invariant-takes-loop-place : goal.invariant-takes-loop-place
invariant-takes-loop-place l = record {
  no_deeper : most size-Place l.left.items ≤ most size-Place l.fn.places.items;
  taken : taken_from l.temps l.done.items l.left.items ≡ places.takes l.fn.temps (places_of l.fn.places.items);
}

abbrev pub decreases-takes-loop-place : goal.decreases-takes-loop-place
decreases-takes-loop-place l = length l.left.items
