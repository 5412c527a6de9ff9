use Rattle.std.proofs.Common.{◌≡◌, ◌++◌, drop}
use Rattle.op_rules.specs.Dicts.{couples}
use Rattle.rt_dict.proofs.filling.couples.Given as goal

abbrev pub invariant-loop-place : goal.invariant-loop-place
invariant-loop-place l = l.list.items ++ couples (drop l.place l.pairs) ≡ couples l.pairs
