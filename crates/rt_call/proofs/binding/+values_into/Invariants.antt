use Rattle.std.proofs.Common.{length}
use Rattle.rt_call.proofs.binding.+values_into.Given as goal

abbrev pub decreases-values_into : goal.decreases-values_into
decreases-values_into l = length l.left.now
