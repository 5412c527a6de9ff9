use denote.Param.Weighed.{most}
use Rattle.std.proofs.Common.{◌≡◌, ◌≤◌, length}
use Rattle.node_tree.specs.Tree.{block}
use Rattle.carried_codes.specs.Places as places
use Rattle.reform_targets.specs.declared.place.Place.{size-Place}
use Rattle.reform_targets.specs.Places.{places_of}
use Rattle.reform_targets.proofs.Turned.{made_from}
use Rattle.reform_targets.proofs.deletions.+delete.Given as goal

-- those that are done, and those that are left, the first of them at the end, are all of them
abbrev pub invariant-delete_all-loop-place : goal.invariant-delete_all-loop-place
invariant-delete_all-loop-place l = record {
  no_deeper : most size-Place l.left.items ≤ most size-Place l.fn.places.items;
  deleted : made_from places.delete_all l.temps (block l.whole) l.left.items ≡ places.delete_all l.fn.temps (places_of l.fn.places.items);
}

abbrev pub decreases-delete_all-loop-place : goal.decreases-delete_all-loop-place
decreases-delete_all-loop-place l = length l.left.items
