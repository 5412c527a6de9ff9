use Rattle.std.proofs.Common.{length}
use Rattle.op_rules.proofs.first_objects.+make_natives.Given as goal

abbrev pub decreases-make_natives : goal.decreases-make_natives
decreases-make_natives l = length l.natives.now
