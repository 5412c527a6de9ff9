use Rattle.std.proofs.Common.{◌≡◌, ◌+◌, ◌-◌, ◌++◌}
use Rattle.generator_cut.specs.Cut.{counted}
use Rattle.generator_cut.proofs.pauses.numbers.Given as goal

abbrev pub invariant-loop-index : goal.invariant-loop-index
invariant-loop-index l = l.list.items ++ counted (l.count - l.index) (l.first + l.index) ≡ counted l.count l.first
