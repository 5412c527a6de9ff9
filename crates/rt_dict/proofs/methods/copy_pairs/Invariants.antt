use Rattle.std.proofs.Common.{◌≡◌, [], drop}
use Rattle.op_rules.specs.DictMethods.{put_all}
use Rattle.rt_dict.proofs.methods.copy_pairs.Given as goal

abbrev pub invariant-loop-place : goal.invariant-loop-place
invariant-loop-place l = put_all l.all (drop l.place l.pairs) ≡ put_all [] l.pairs
