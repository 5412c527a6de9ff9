use Rattle.carries_names.proofs.Functions.{function_carried}
use Rattle.carries_names.proofs.functions_are_carried.Goals as goal

pub returns : goal.returns
returns c = function_carried
