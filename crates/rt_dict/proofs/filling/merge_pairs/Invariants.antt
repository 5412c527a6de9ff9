use Rattle.std.proofs.Common.{◌≡◌, drop}
use Rattle.op_rules.specs.Dicts.{merge_all}
use Rattle.rt_dict.proofs.filling.merge_pairs.Given as goal

abbrev pub invariant-loop-place : goal.invariant-loop-place
invariant-loop-place l = merge_all l.pairs (drop l.place l.more) ≡ merge_all l.initial.pairs l.more
