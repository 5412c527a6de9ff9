use Rattle.std.proofs.Common.{◌≡◌, length}
use Rattle.node_tree.specs.Tree.{block}
use Rattle.carried_codes.specs.Places as places
use Rattle.reform_targets.specs.Places.{places_of}
use Rattle.reform_targets.proofs.Turned.{made_from}
use Rattle.reform_targets.proofs.assigned.assign_all.Given as goal

-- those that are done, and those that are left, the first of them at the end, are all of them
abbrev pub invariant-loop-place : goal.invariant-loop-place
invariant-loop-place l = record {
  same : l.value ≡ l.fn.value;
  assigned : made_from (λ t ps. places.assign_all t l.fn.value ps) l.temps (block l.whole) l.left.items ≡ places.assign_all l.fn.temps l.fn.value (places_of l.fn.places.items);
}

abbrev pub decreases-loop-place : goal.decreases-loop-place
decreases-loop-place l = length l.left.items
