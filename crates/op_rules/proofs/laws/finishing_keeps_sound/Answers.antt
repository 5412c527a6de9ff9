use Rattle.op_rules.proofs.Keeping.{finishing_sound}
use Rattle.op_rules.proofs.laws.finishing_keeps_sound.Goals as goal

pub returns : goal.returns
returns c = finishing_sound c.doings_keep_sound.ensures
