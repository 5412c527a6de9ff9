use Rattle.std.proofs.Common.{◌≡◌, map}
use Rattle.code_forms.specs.declared.operand.Argument.TheVariants as argument
use Rattle.reform_functions.proofs.functions.values_of.Given as goal

abbrev pub invariant-loop-value : goal.invariant-loop-value
invariant-loop-value l = l.args ≡ map argument.Value l.yielded
