use Rattle.std.proofs.Common.{◌≡◌, drop}
use Rattle.op_rules.specs.SequenceOperators.{found_from}
use Rattle.rt_seq.proofs.search.place_of_value.Given as goal

abbrev pub invariant-loop-place : goal.invariant-loop-place
invariant-loop-place l = found_from l.heap l.value l.place (drop l.place l.items) ≡ found_from l.heap l.value 0 l.items
