use Rattle.std.proofs.Common.{◌≡◌, map, ◌++◌}
use Rattle.reform_expr.specs.Parts.{blocks}
use Rattle.reform_expr.proofs.operations.values.Given as goal

abbrev pub invariant-loop-part : goal.invariant-loop-part
invariant-loop-part l = (l.whole ≡ l.initial.whole ++ blocks l.yielded) × (l.args ≡ map (λ p. p.value) l.yielded)
