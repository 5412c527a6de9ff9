use Rattle.std.proofs.Common.{◌≡◌, drop}
use Rattle.op_rules.specs.Calls.{are_cells}
use Rattle.rt_call.proofs.definitions.are_cells.Given as goal

abbrev pub invariant-loop-value : goal.invariant-loop-value
invariant-loop-value l = are_cells l.heap (drop l.value-index l.values) ≡ are_cells l.heap l.values
