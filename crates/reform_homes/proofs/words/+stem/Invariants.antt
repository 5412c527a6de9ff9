use Rattle.std.proofs.Common.{length}
use Rattle.reform_homes.proofs.words.+stem.Given as goal

abbrev pub decreases-stem : goal.decreases-stem
decreases-stem l = length l.name.now
