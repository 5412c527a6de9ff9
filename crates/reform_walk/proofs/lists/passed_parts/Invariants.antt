use Rattle.std.proofs.Common.{◌≡◌, ◌∷◌, map}
use Rattle.reform_blocks.specs.Parts.{carrier}
use Rattle.reform_values.specs.Passing.{passed_of}
use Rattle.walk_laws.specs.Expressions as spec
use Rattle.reform_walk.proofs.lists.passed_parts.Given as goal

abbrev pub invariant-loop-one : goal.invariant-loop-one
invariant-loop-one l = map carrier l.parts.items ≡ carrier l.fn.function ∷ map spec.passed_part (map passed_of l.yielded)
