use Rattle.flow_lower.proofs.Scripts.{lowers_same}
use Rattle.flow_lower.proofs.lowered_does_the_same.Goals as goal

pub returns : goal.returns
returns c = lowers_same
