-- The primitive statements of calls with stars and keywords, and when parts carry their arguments.
use Rattle.std.specs.Prelude.{◌≡◌, ℕ, ◌+◌, List, [], ◌∷◌, Bool, true, false}
use Rattle.op_forms.specs.declared.constant.Const.TheVariants as const
use Rattle.op_forms.specs.declared.op.Op.TheVariants as op
use Rattle.code_forms.specs.declared.operand.Argument.TheVariants as argument
use Rattle.code_forms.specs.declared.operand.Operand.{Operand}
use Rattle.code_forms.specs.declared.operand.Operand.TheVariants as operand
use Rattle.node_tree.specs.Blocks.{alone, of_temp}
use Rattle.node_tree.specs.Blocks as tree
use Rattle.py_meaning.specs.Syntax as syntax
use Rattle.carries_base.specs.Frames.{Homes}
use Rattle.carries_base.specs.Carries.{Carrier}
use Rattle.carries_values.specs.Parts.{CarriesBeside}
use Rattle.carries_values.specs.Displays.{added_block}

-- the part of an argument
pub data Passed : Type 0 where
  Plain : (p : Carrier) → Passed
  Star : (p : Carrier) → Passed
  Key : (name : List ℕ) (p : Carrier) → Passed
  Merge : (p : Carrier) → Passed

-- the dict of keywords goes to the temporary `to`, unless it is there
abbrev pub keywords_block : ℕ → ℕ → Bool → tree.Block → tree.Block
keywords_block line to true rest = rest
keywords_block line to false rest = tree.Follow (tree.Do to line op.Dict []) rest

-- the value of a part goes into it, under this name
abbrev pub key_block : ℕ → ℕ → ℕ → List ℕ → Carrier → tree.Block → tree.Block
key_block line t u name p rest =
    tree.append p.block
    (tree.Follow (tree.Do u line op.KeyPut (of_temp t ∷ argument.Value (operand.Const (const.Str name)) ∷ argument.Value p.value ∷ [])) rest)

-- the arguments go into the list in the temporary t and, the keywords, into the dict in the next one; then the call
abbrev pub pass_block : ℕ → ℕ → Operand → Bool → List Passed → tree.Block
pass_block line t f begun [] =
    keywords_block line (t + 1) begun (alone (tree.Do (t + 3) line op.CallX (argument.Value f ∷ of_temp t ∷ of_temp (t + 1) ∷ [])))
pass_block line t f begun (Plain p ∷ ps) = added_block line t (t + 2) op.Push p (pass_block line t f begun ps)
pass_block line t f begun (Star p ∷ ps) = added_block line t (t + 2) op.Extend p (pass_block line t f begun ps)
pass_block line t f begun (Key name p ∷ ps) = keywords_block line (t + 1) begun (key_block line (t + 1) (t + 2) name p (pass_block line t f true ps))
pass_block line t f begun (Merge p ∷ ps) =
    keywords_block line (t + 1) begun (added_block line (t + 1) (t + 2) op.KeyMerge p (pass_block line t f true ps))

abbrev pub call_block : ℕ → ℕ → Carrier → List Passed → tree.Block
call_block line t f ps = tree.append f.block (tree.Follow (tree.Do t line op.List []) (pass_block line t f.value false ps))

-- what is called is kept over each argument
abbrev pub CarriesArguments : Homes → ℕ → ℕ → Operand → syntax.Arguments → List Passed → Type 0
CarriesArguments h low high f syntax.NoArgument [] = Unit {0}
CarriesArguments h low high f (syntax.Plain x xs) (Plain p ∷ ps) = CarriesBeside h low high f x p × CarriesArguments h low high f xs ps
CarriesArguments h low high f (syntax.Star x xs) (Star p ∷ ps) = CarriesBeside h low high f x p × CarriesArguments h low high f xs ps
CarriesArguments h low high f (syntax.Keyword name x xs) (Key key p ∷ ps) =
    (name ≡ key) × CarriesBeside h low high f x p × CarriesArguments h low high f xs ps
CarriesArguments h low high f (syntax.DoubleStar x xs) (Merge p ∷ ps) = CarriesBeside h low high f x p × CarriesArguments h low high f xs ps
CarriesArguments h low high f xs ps = ⊥
