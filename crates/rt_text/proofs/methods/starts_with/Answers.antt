use Rattle.std.proofs.Common.{ap}
use Rattle.std.proofs.lemmas.Str.Pattern.{starts_text}
use Rattle.nu_value.specs.declared.value.Value.TheVariants as value
use Rattle.op_forms.specs.declared.end.OpEnd.TheVariants as opend
use Rattle.rt_text.proofs.methods.starts_with.Goals as goal

pub returns : goal.returns
returns c = ap (λ b. opend.Give (value.Bool b)) (starts_text c.starts_with.result c.args.part.now c.args.text.now c.starts_with.ensures.cases)
