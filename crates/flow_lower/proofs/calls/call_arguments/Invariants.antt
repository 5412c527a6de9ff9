use Rattle.std.proofs.Common.{◌≡◌, ◌∷◌, map, take}
use Rattle.code_forms.specs.declared.operand.Argument.TheVariants as argument
use Rattle.flow_lower.proofs.calls.call_arguments.Given as goal

abbrev pub invariant-loop-operand : goal.invariant-loop-operand
invariant-loop-operand l = l.list.items ≡ argument.Value l.function ∷ map argument.Value (take l.operand-index l.arguments)
