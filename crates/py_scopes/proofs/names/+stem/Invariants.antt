use Rattle.std.proofs.Common.{length}
use Rattle.py_scopes.proofs.names.+stem.Given as goal

abbrev pub decreases-stem : goal.decreases-stem
decreases-stem l = length l.name.now
