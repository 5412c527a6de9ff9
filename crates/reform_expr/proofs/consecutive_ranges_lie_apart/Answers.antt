use Rattle.reform_expr.proofs.Operands.{consecutive}
use Rattle.reform_expr.proofs.consecutive_ranges_lie_apart.Goals as goal

pub returns : goal.returns
returns c = consecutive
