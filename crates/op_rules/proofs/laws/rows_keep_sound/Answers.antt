use Rattle.op_rules.proofs.Keeping.{rows_sound}
use Rattle.op_rules.proofs.laws.rows_keep_sound.Goals as goal

pub returns : goal.returns
returns c = rows_sound c.doings_keep_sound.ensures
