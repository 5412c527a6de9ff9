use Rattle.op_forms.specs.Signature as signature
use Rattle.reform_values.proofs.Joined.{next_given}
use Rattle.reform_values.proofs.operations.arguments.Goals as goal

pub loop-value-preserved : goal.loop-value-preserved
loop-value-preserved c =
    next_given (signature.arguments c.args.op) c.loop-value.yielded c.in-Some.value c.loop-value.args c.push.new.self c.len.result c.takes_name-named.result c.argument.result c.loop-value.invariant c.len.ensures c.takes_name-named.ensures c.argument.ensures c.in_ok-push.ensures.ok
