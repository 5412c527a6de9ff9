use Rattle.walk_laws.proofs.Expressions.{expressions_are_walked}
use Rattle.walk_laws.proofs.Statements.{scripts_walked}
use Rattle.walk_laws.proofs.laws.scripts_are_walked.Goals as goal

pub returns : goal.returns
returns w = scripts_walked expressions_are_walked
