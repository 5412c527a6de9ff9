use Rattle.std.proofs.Common.{◌≡◌, ◌++◌}
use Rattle.op_rules.specs.SequenceOperators.{repeats}
use Rattle.rt_seq.proofs.lists.repeated.Given as goal

abbrev pub invariant-loop-left : goal.invariant-loop-left
invariant-loop-left l = l.items ++ repeats l.left l.values ≡ repeats l.count l.values

abbrev pub decreases-loop-left : goal.decreases-loop-left
decreases-loop-left l = l.left
