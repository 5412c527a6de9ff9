use Rattle.carries_values.proofs.Calls.{call_carried}
use Rattle.carries_values.proofs.calls_are_carried.Goals as goal

pub returns : goal.returns
returns c = call_carried
