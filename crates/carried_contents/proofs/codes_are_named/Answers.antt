use Rattle.carried_contents.proofs.Named.{codes_named}
use Rattle.carried_contents.proofs.codes_are_named.Goals as goal

pub returns : goal.returns
returns w = codes_named
