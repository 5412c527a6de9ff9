-- The constants that values are.
use Rattle.nu_value.specs.declared.value.Value.{Value}
use Rattle.nu_value.specs.declared.value.Value.TheVariants as value
use Rattle.op_forms.specs.declared.constant.Const.{Const}
use Rattle.op_forms.specs.declared.constant.Const.TheVariants as const

-- of a value that no script has as a constant, nothing is said
abbrev pub const_of : Value → Const
const_of (value.Bool b) = const.Bool b
const_of (value.Int i) = const.Int i
const_of (value.Str s) = const.Str s
const_of other = const.None
