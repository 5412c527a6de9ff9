use Rattle.std.proofs.Common.{[], refl}
use Rattle.code_forms.specs.declared.operand.Argument.TheVariants as argument
use Rattle.reform_functions.proofs.Defaults.{next_mapped}
use Rattle.reform_functions.proofs.functions.values_of.Goals as goal

pub loop-value-preserved : goal.loop-value-preserved
loop-value-preserved c = next_mapped argument.Value [] c.loop-value.yielded c.in-Some.value c.loop-value.args c.push.new.self _ c.loop-value.invariant refl c.in_ok-push.ensures.ok
