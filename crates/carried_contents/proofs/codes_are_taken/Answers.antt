use Rattle.carried_contents.proofs.Codes.{codes_taken}
use Rattle.carried_contents.proofs.codes_are_taken.Goals as goal

pub returns : goal.returns
returns w = codes_taken
