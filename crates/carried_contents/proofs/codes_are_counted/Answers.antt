use Rattle.carried_contents.proofs.Counted.{codes_counted}
use Rattle.carried_contents.proofs.codes_are_counted.Goals as goal

pub returns : goal.returns
returns w = codes_counted
