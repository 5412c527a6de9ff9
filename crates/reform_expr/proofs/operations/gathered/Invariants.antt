use Rattle.std.proofs.Common.{◌≡◌}
use Rattle.reform_expr.specs.Arguments.{arguments}
use Rattle.reform_expr.specs.Parts.{blocks}
use Rattle.reform_expr.proofs.operations.gathered.Given as goal

abbrev pub invariant-loop-part : goal.invariant-loop-part
invariant-loop-part l = (l.block ≡ blocks l.yielded) × (l.args ≡ arguments l.op l.yielded)
