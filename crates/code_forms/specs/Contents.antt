-- How many constants stand in operands and arguments that pass a test.
use Rattle.std.specs.Prelude.{ℕ, ◌+◌, List, [], ◌∷◌, Bool, if◌then◌else◌}
use Rattle.op_forms.specs.declared.constant.Const.{Const}
use Rattle.code_forms.specs.declared.operand.Argument.{Argument}
use Rattle.code_forms.specs.declared.operand.Argument.TheVariants as argument
use Rattle.code_forms.specs.declared.operand.Operand.{Operand}
use Rattle.code_forms.specs.declared.operand.Operand.TheVariants as operand

module _ (test : Const → Bool) where
  abbrev pub operand_constants : Operand → ℕ
  operand_constants (operand.Temp t) = 0
  operand_constants (operand.Const c) = if test c then 1 else 0

  abbrev pub argument_constants : Argument → ℕ
  argument_constants (argument.Value a) = operand_constants a
  argument_constants (argument.Name name) = 0

  abbrev pub arguments_constants : List Argument → ℕ
  arguments_constants [] = 0
  arguments_constants (a ∷ args) = argument_constants a + arguments_constants args
