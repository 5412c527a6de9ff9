use Rattle.std.proofs.Common.{◌≡◌, drop}
use Rattle.runtime_table.specs.Placed.{are_placed}
use Rattle.runtime_table.proofs.quick_calls.are_placed.Given as goal

abbrev pub invariant-loop-param : goal.invariant-loop-param
invariant-loop-param l = are_placed (drop l.param-index l.params) ≡ are_placed l.params
