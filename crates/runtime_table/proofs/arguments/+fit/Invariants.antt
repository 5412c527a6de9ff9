use Rattle.std.proofs.Common.{length}
use Rattle.runtime_table.proofs.arguments.+fit.Given as goal

abbrev pub decreases-fit : goal.decreases-fit
decreases-fit l = length l.kinds.now
