use Rattle.carried_codes.proofs.Codes.{code_carried}
use Rattle.carried_codes.proofs.laws.codes_are_carried.Goals as goal

pub returns : goal.returns
returns w = code_carried
