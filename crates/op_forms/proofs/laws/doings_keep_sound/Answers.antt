use Rattle.op_forms.proofs.Keeping.{doings_sound}
use Rattle.op_forms.proofs.laws.doings_keep_sound.Goals as goal

pub returns : goal.returns
returns c = doings_sound
