use Rattle.std.proofs.Common.{◌≡◌, ◌++◌, drop, map}
use Rattle.std.specs.BTreeMap.{get}
use Rattle.std.specs.Ordering.{nat_cmp}
use Rattle.c_machine.proofs.placing.goals_of.Given as goal

abbrev pub invariant-loop-label : goal.invariant-loop-label
invariant-loop-label l = l.goals.items ++ map (get nat_cmp l.marks) (drop l.label-index l.labels) ≡ map (get nat_cmp l.marks) l.labels
