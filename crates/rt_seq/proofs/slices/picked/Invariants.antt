use Rattle.std.proofs.Common.{◌≡◌, ◌++◌}
use Rattle.op_rules.specs.Slices.{picked}
use Rattle.rt_seq.proofs.slices.picked.Given as goal

abbrev pub invariant-loop-left : goal.invariant-loop-left
invariant-loop-left l = l.all ++ picked l.items l.place l.step l.left ≡ picked l.items l.first l.step l.count

abbrev pub decreases-loop-left : goal.decreases-loop-left
decreases-loop-left l = l.left
