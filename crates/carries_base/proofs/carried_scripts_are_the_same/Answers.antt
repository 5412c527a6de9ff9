use Rattle.carries_base.proofs.Scripts.{script_same}
use Rattle.carries_base.proofs.carried_scripts_are_the_same.Goals as goal

pub returns : goal.returns
returns c = script_same
