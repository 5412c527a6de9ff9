use Rattle.std.proofs.Common.{◌≡◌, drop}
use Rattle.op_rules.specs.Subclasses.{any_of}
use Rattle.rt_class.proofs.calls.any_of.Given as goal

abbrev pub invariant-loop-value : goal.invariant-loop-value
invariant-loop-value l = any_of l.heap l.own (drop l.value-index l.values) ≡ any_of l.heap l.own l.values
