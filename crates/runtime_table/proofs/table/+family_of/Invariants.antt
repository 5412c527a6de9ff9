use Rattle.std.proofs.Common.{length}
use Rattle.runtime_table.proofs.table.+family_of.Given as goal

abbrev pub decreases-family_of : goal.decreases-family_of
decreases-family_of l = length l.args.now
