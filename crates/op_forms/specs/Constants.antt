-- Constants as values.
use Rattle.nu_value.specs.declared.value.Value.{Value}
use Rattle.nu_value.specs.declared.value.Value.TheVariants as value
use Rattle.op_forms.specs.declared.constant.Const.{Const}
use Rattle.op_forms.specs.declared.constant.Const.TheVariants as const

abbrev pub value_of : Const → Value
value_of const.None = value.None
value_of (const.Bool b) = value.Bool b
value_of (const.Int z) = value.Int z
value_of (const.Str text) = value.Str text
