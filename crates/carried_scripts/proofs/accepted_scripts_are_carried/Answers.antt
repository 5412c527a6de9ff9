use Rattle.carried_scripts.proofs.Scripts.{accepted_carried}
use Rattle.carried_scripts.proofs.accepted_scripts_are_carried.Goals as goal

pub returns : goal.returns
returns c = accepted_carried c.accepted_scripts_are_lawful.ensures c.scripts_are_carried.ensures
