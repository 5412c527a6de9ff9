-- How many operations don't take what they are given, and how many functions have a code that is no number, or another one.
use Rattle.std.specs.Prelude.{ℕ, pos, List, ◌∷◌, Bool, true, false, not, if◌then◌else◌}
use Rattle.op_forms.specs.declared.constant.Const.TheVariants as const
use Rattle.op_forms.specs.declared.op.Op.{Op}
use Rattle.op_forms.specs.declared.op.Op.TheVariants as op
use Rattle.code_forms.specs.declared.operand.Argument.{Argument}
use Rattle.code_forms.specs.declared.operand.Argument.TheVariants as argument
use Rattle.code_forms.specs.declared.operand.Operand.TheVariants as operand
use Rattle.code_forms.specs.Taking.{is_taken}
use Rattle.node_tree.specs.Blocks.{Block}
use Rattle.node_tree.specs.Contents.{operations}

-- how many operations don't take what they are given
abbrev pub refused : Block → ℕ
refused b = operations (λ o args. not (is_taken o args)) b

abbrev pub is_function : Op → Bool
is_function op.Func = true
is_function other = false

-- a function's code is a number that stands there and passes the test
module _ (inside : ℕ → Bool) where
  abbrev pub has_number : List Argument → Bool
  has_number (argument.Value (operand.Const (const.Int (pos code))) ∷ args) = inside code
  has_number other = false

  abbrev pub is_numbered : Op → List Argument → Bool
  is_numbered o args = if is_function o then has_number args else true

  -- how many functions have other codes
  abbrev pub unnumbered : Block → ℕ
  unnumbered b = operations (λ o args. not (is_numbered o args)) b
