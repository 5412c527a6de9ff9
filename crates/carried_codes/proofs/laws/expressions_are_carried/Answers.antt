use Rattle.carried_codes.proofs.Expressions.{value_carried}
use Rattle.carried_codes.proofs.laws.expressions_are_carried.Goals as goal

pub returns : goal.returns
returns w = λ c r h t x k st l. value_carried c r h k t x st l
