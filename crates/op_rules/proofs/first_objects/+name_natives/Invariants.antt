use Rattle.std.proofs.Common.{length}
use Rattle.op_rules.proofs.first_objects.+name_natives.Given as goal

abbrev pub decreases-name_natives : goal.decreases-name_natives
decreases-name_natives l = length l.natives.now
