use Rattle.std.proofs.Common.{length}
use Rattle.rt_call.proofs.params.+places.Given as goal

abbrev pub decreases-places : goal.decreases-places
decreases-places l = length l.params.now
