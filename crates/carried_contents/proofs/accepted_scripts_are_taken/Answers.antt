use Rattle.carried_contents.proofs.Scripts.{accepted_taken}
use Rattle.carried_contents.proofs.accepted_scripts_are_taken.Goals as goal

pub returns : goal.returns
returns c = accepted_taken c.accepted_scripts_are_lawful.ensures
