use Rattle.walk_laws.proofs.Expressions.{expressions_are_walked}
use Rattle.walk_laws.proofs.Statements.{statements_walked}
use Rattle.walk_laws.proofs.laws.statements_are_walked.Goals as goal

pub returns : goal.returns
returns w = statements_walked expressions_are_walked
