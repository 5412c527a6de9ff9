use Rattle.op_rules.proofs.Start.{start_sound}
use Rattle.op_rules.proofs.laws.the_start_is_sound.Goals as goal

pub returns : goal.returns
returns c = start_sound
