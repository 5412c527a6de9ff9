use Rattle.std.proofs.Common.{length}
use Rattle.op_rules.proofs.first_objects.+name_classes.Given as goal

abbrev pub decreases-name_classes : goal.decreases-name_classes
decreases-name_classes l = length l.classes.now
