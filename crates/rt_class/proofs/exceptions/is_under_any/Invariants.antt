use Rattle.std.proofs.Common.{◌≡◌, drop}
use Rattle.std.specs.List.{list_any}
use Rattle.op_rules.specs.Subclasses.{is_under_value}
use Rattle.rt_class.proofs.exceptions.is_under_any.Given as goal

abbrev pub invariant-loop-value : goal.invariant-loop-value
invariant-loop-value l = list_any (is_under_value l.heap l.own) (drop l.value-index l.values) ≡ list_any (is_under_value l.heap l.own) l.values
