use Rattle.carries_definitions.proofs.Whole.{yield_from_carried}
use Rattle.carries_definitions.proofs.delegation_is_carried.Goals as goal

pub returns : goal.returns
returns c = yield_from_carried
