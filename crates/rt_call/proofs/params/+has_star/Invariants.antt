use Rattle.std.proofs.Common.{length}
use Rattle.rt_call.proofs.params.+has_star.Given as goal

abbrev pub decreases-has_star : goal.decreases-has_star
decreases-has_star l = length l.params.now
