use Rattle.std.proofs.Common.{◌≡◌, ◌++◌, length, map, reverse}
use Rattle.std.specs.BTreeMap.{get}
use Rattle.std.specs.Ordering.{nat_cmp}
use Rattle.c_meaning.specs.Code.{statements_of}
use Rattle.c_machine.specs.Starting.{placed_by}
use Rattle.c_machine.proofs.placing.placed_all.Given as goal

abbrev pub invariant-loop-line : goal.invariant-loop-line
invariant-loop-line l = map (placed_by (get nat_cmp l.marks)) (statements_of l.lines) ++ reverse l.backwards.items ≡ map (placed_by (get nat_cmp l.marks)) (statements_of l.fn.lines)

abbrev pub decreases-loop-line : goal.decreases-loop-line
decreases-loop-line l = length l.lines
