use Rattle.std.proofs.Common.{◌≡◌}
use Rattle.op_forms.specs.Signature as signature
use Rattle.carried_codes.specs.Operations.{given}
use Rattle.reform_values.proofs.operations.arguments.Given as goal

abbrev pub invariant-loop-value : goal.invariant-loop-value
invariant-loop-value l = l.args ≡ given (signature.arguments l.op) l.yielded
