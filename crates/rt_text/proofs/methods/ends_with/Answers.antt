use Rattle.std.proofs.Common.{ap}
use Rattle.std.proofs.lemmas.Str.Pattern.{ends_text}
use Rattle.nu_value.specs.declared.value.Value.TheVariants as value
use Rattle.op_forms.specs.declared.end.OpEnd.TheVariants as opend
use Rattle.rt_text.proofs.methods.ends_with.Goals as goal

pub returns : goal.returns
returns c = ap (λ b. opend.Give (value.Bool b)) (ends_text c.ends_with.result c.args.part.now c.args.text.now c.ends_with.ensures.cases)
