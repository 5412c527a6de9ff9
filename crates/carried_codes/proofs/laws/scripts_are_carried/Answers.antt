use Rattle.carried_codes.proofs.Scripts.{same_run}
use Rattle.carried_codes.proofs.laws.scripts_are_carried.Goals as goal

pub returns : goal.returns
returns w = same_run
