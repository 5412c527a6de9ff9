use Rattle.carries_control.proofs.Loops.{for_carried}
use Rattle.carries_control.proofs.for_is_carried.Goals as goal

pub returns : goal.returns
returns c = for_carried
