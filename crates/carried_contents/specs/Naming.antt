-- Which names and text constants stand in statements.
use Rattle.std.specs.Prelude.{ℕ, List, [], ◌∷◌, Bool, true, not, ◌&&◌}
use Rattle.op_forms.specs.declared.constant.Const.{Const}
use Rattle.op_forms.specs.declared.constant.Const.TheVariants as const
use Rattle.code_forms.specs.declared.operand.Argument.{Argument}
use Rattle.code_forms.specs.declared.operand.Argument.TheVariants as argument
use Rattle.node_tree.specs.Blocks.{Block}
use Rattle.node_tree.specs.Contents.{operations, constants}

module _ (fits : List ℕ → Bool) where
  abbrev pub names_fit : List Argument → Bool
  names_fit [] = true
  names_fit (argument.Name name ∷ args) = fits name && names_fit args
  names_fit (argument.Value a ∷ args) = names_fit args

  abbrev pub text_fits : Const → Bool
  text_fits (const.Str text) = fits text
  text_fits other = true

  -- how many operations have a bare name that doesn't pass the test, and how many constants are texts that don't
  abbrev pub other_names : Block → ℕ
  other_names b = operations (λ o args. not (names_fit args)) b

  abbrev pub other_texts : Block → ℕ
  other_texts b = constants (λ c. not (text_fits c)) b
