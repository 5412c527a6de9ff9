use Rattle.walk_laws.proofs.Expressions.{expressions_are_walked}
use Rattle.walk_laws.proofs.laws.expressions_are_walked.Goals as goal

pub returns : goal.returns
returns w = expressions_are_walked
