-- Which operations and constants stand in a block, how many pass a test; and how many pauses.
use Rattle.std.specs.Prelude.{ℕ, ◌+◌, List, [], ◌∷◌, map, Bool, if◌then◌else◌}
use Rattle.op_forms.specs.declared.constant.Const.{Const}
use Rattle.op_forms.specs.declared.op.Op.{Op}
use Rattle.op_forms.specs.declared.op.Op.TheVariants as op
use Rattle.code_forms.specs.declared.operand.Argument.{Argument}
use Rattle.code_forms.specs.declared.operand.Argument.TheVariants as argument
use Rattle.code_forms.specs.Contents.{operand_constants, arguments_constants}
use Rattle.node_tree.specs.Blocks as tree

-- a sum over the statements of a block, those inside others too
module _ (count : tree.Form → ℕ) where
  abbrev mutual
    pub form_total : tree.Form → ℕ
    form_total (tree.If a y n) = count (tree.If a y n) + (total y + total n)
    form_total (tree.Loop body) = count (tree.Loop body) + total body
    form_total (tree.Catch to body handler) = count (tree.Catch to body handler) + (total body + total handler)
    form_total other = count other

    pub total : tree.Block → ℕ
    total tree.Stop = 0
    total (tree.Follow x r) = form_total x + total r

-- a call is the operation of calls
abbrev pub form_operations : (Op → List Argument → Bool) → tree.Form → ℕ
form_operations test (tree.Do to line o args) = if test o args then 1 else 0
form_operations test (tree.Call to line function args) =
    if test op.Call (argument.Value function ∷ map argument.Value args) then 1 else 0
form_operations test other = 0

-- how many operations, with their arguments and names, pass the test
abbrev pub operations : (Op → List Argument → Bool) → tree.Block → ℕ
operations test b = total (form_operations test) b

module _ (test : Const → Bool) where
  abbrev pub form_constants : tree.Form → ℕ
  form_constants (tree.Constant to c) = if test c then 1 else 0
  form_constants (tree.Do to line o args) = arguments_constants test args
  form_constants (tree.Call to line function args) =
      arguments_constants test (argument.Value function ∷ map argument.Value args)
  form_constants (tree.Yield to line a) = operand_constants test a
  form_constants (tree.If a y n) = operand_constants test a
  form_constants (tree.Return a) = operand_constants test a
  form_constants (tree.Raise a) = operand_constants test a
  form_constants other = 0

  -- how many constants pass the test
  abbrev pub constants : tree.Block → ℕ
  constants b = total form_constants b

abbrev pub form_yields : tree.Form → ℕ
form_yields (tree.Yield to line a) = 1
form_yields other = 0

-- how many pauses
abbrev pub yields : tree.Block → ℕ
yields b = total form_yields b
