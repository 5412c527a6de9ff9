-- How often operations stand in statements, with their bare names, and how often a scope's own list asks for them.
use Rattle.std.specs.Prelude.{ℕ, ◌+◌, Bool, not, ◌&&◌, if◌then◌else◌, List, [], ◌∷◌, Option, Some, None}
use Rattle.op_forms.specs.declared.op.Op.{Op}
use Rattle.code_forms.specs.declared.operand.Argument.{Argument}
use Rattle.code_forms.specs.declared.operand.Argument.TheVariants as argument
use Rattle.node_tree.specs.Blocks.{Block}
use Rattle.node_tree.specs.Contents.{operations}
use Rattle.py_meaning.specs.Own.{Own, is_free}

-- the bare name among arguments
abbrev pub bare_name : List Argument → Option (List ℕ)
bare_name [] = None
bare_name (argument.Name name ∷ args) = Some name
bare_name (argument.Value a ∷ args) = bare_name args

module _ (test : Op → Option (List ℕ) → Bool) where
  -- how many operations pass the test that aren't free
  abbrev pub stand : Block → ℕ
  stand b = operations (λ o args. not (is_free o) && test o (bare_name args)) b

  -- how many entries of a list do
  unfoldable pub asked : List Own → ℕ
  asked [] = 0
  asked (e ∷ es) = (if test e.op e.name then 1 else 0) + asked es
