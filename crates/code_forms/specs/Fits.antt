-- What holds of constants, names and lines, since they are values of their types.
use Rattle.std.specs.Prelude.{ℕ, ◌<◌, ◌^◌, List, ℤ, pos, negsuc, IsUtf8}
use Rattle.std.specs.List.{AllByRecursion}
use Rattle.nu_value.specs.declared.header.Header.{Header}
use Rattle.nu_value.specs.declared.header.ParamKind.{ParamKind}
use Rattle.op_forms.specs.declared.constant.Const.{Const}
use Rattle.op_forms.specs.declared.constant.Const.TheVariants as const
use Rattle.code_forms.specs.declared.operand.Argument.{Argument}
use Rattle.code_forms.specs.declared.operand.Argument.TheVariants as argument
use Rattle.code_forms.specs.declared.operand.Operand.{Operand}
use Rattle.code_forms.specs.declared.operand.Operand.TheVariants as operand

-- a whole number from -2^127 to 2^127 - 1
abbrev pub IsInt : ℤ → Type 0
IsInt (pos n) = n < 2 ^ 127
IsInt (negsuc n) = n < 2 ^ 127

abbrev pub IsLine : ℕ → Type 0
IsLine n = n < 2 ^ 32

abbrev pub ConstFits : Const → Type 0
ConstFits const.None = Unit {0}
ConstFits (const.Bool b) = Unit {0}
ConstFits (const.Int z) = IsInt z
ConstFits (const.Str text) = IsUtf8 text

abbrev pub OperandFits : Operand → Type 0
OperandFits (operand.Temp t) = Unit {0}
OperandFits (operand.Const c) = ConstFits c

abbrev pub ArgumentFits : Argument → Type 0
ArgumentFits (argument.Value a) = OperandFits a
ArgumentFits (argument.Name name) = IsUtf8 name

abbrev pub ParamFits : (ParamKind × List ℕ) → Type 0
ParamFits p = IsUtf8 p.1

pub record HeaderFits (h : Header) : Type 0 where
  pub scope : IsUtf8 h.scope
  pub params : AllByRecursion ParamFits h.params
  pub line : IsLine h.line
