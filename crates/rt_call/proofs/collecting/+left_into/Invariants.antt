use Rattle.std.proofs.Common.{length}
use Rattle.rt_call.proofs.collecting.+left_into.Given as goal

abbrev pub decreases-left_into : goal.decreases-left_into
decreases-left_into l = length l.names.now
