-- What stands in a block: operations with their arguments, constants, and pauses; how many pass a test.
use Rattle.std.specs.Prelude.{ℕ, ◌+◌, List, [], ◌∷◌, map, Bool, if◌then◌else◌}
use Rattle.op_forms.specs.declared.constant.Const.{Const}
use Rattle.op_forms.specs.declared.op.Op.{Op}
use Rattle.op_forms.specs.declared.op.Op.TheVariants as op
use Rattle.code_forms.specs.declared.operand.Argument.{Argument}
use Rattle.code_forms.specs.declared.operand.Argument.TheVariants as argument
use Rattle.code_forms.specs.declared.operand.Operand.{Operand}
use Rattle.code_forms.specs.declared.operand.Operand.TheVariants as operand
use Rattle.node_tree.specs.Blocks as tree
use Rattle.node_tree.specs.Contents.{total}

pub data Content : Type 0 where
  Asks : (o : Op) (args : List Argument) → Content
  Constant : (c : Const) → Content
  Pause : Content

module _ (test : Content → Bool) where
  abbrev pub passes : Content → ℕ
  passes x = if test x then 1 else 0

  abbrev pub operand_standing : Operand → ℕ
  operand_standing (operand.Temp t) = 0
  operand_standing (operand.Const c) = passes (Constant c)

  abbrev pub arguments_standing : List Argument → ℕ
  arguments_standing [] = 0
  arguments_standing (argument.Value a ∷ args) = operand_standing a + arguments_standing args
  arguments_standing (argument.Name name ∷ args) = arguments_standing args

  -- an operation with its arguments
  abbrev pub asked_standing : Op → List Argument → ℕ
  asked_standing o args = passes (Asks o args) + arguments_standing args

  -- a call is the operation of calls
  abbrev pub form_standing : tree.Form → ℕ
  form_standing (tree.Constant to c) = passes (Constant c)
  form_standing (tree.Do to line o args) = asked_standing o args
  form_standing (tree.Call to line function args) = asked_standing op.Call (argument.Value function ∷ map argument.Value args)
  form_standing (tree.Yield to line a) = passes Pause + operand_standing a
  form_standing (tree.If a y n) = operand_standing a
  form_standing (tree.Return a) = operand_standing a
  form_standing (tree.Raise a) = operand_standing a
  form_standing other = 0

  abbrev pub standing : tree.Block → ℕ
  standing b = total form_standing b
