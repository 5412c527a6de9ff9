use Rattle.std.proofs.Common.{length}
use Rattle.rt_call.proofs.params.+named_by.Given as goal

abbrev pub decreases-named_by : goal.decreases-named_by
decreases-named_by l = length l.params.now
