-- The primitive statements of `and`, `or`, conditional expressions and chains of comparisons, and when parts carry the links of a chain.
use Rattle.std.specs.Prelude.{◌≡◌, ℕ, ◌+◌, List, [], ◌∷◌, Bool, true, false}
use Rattle.op_forms.specs.declared.op.Op.{Op}
use Rattle.op_forms.specs.declared.op.Op.TheVariants as op
use Rattle.code_forms.specs.declared.operand.Argument.TheVariants as argument
use Rattle.code_forms.specs.declared.operand.Operand.{Operand}
use Rattle.code_forms.specs.declared.operand.Operand.TheVariants as operand
use Rattle.node_tree.specs.Blocks.{alone, of_temp}
use Rattle.node_tree.specs.Blocks as tree
use Rattle.py_meaning.specs.Syntax as syntax
use Rattle.carries_base.specs.Frames.{Homes}
use Rattle.carries_base.specs.Carries.{Carrier}
use Rattle.carries_base.specs.Laws.{if_block}
use Rattle.carries_values.specs.Parts.{moved, into, CarriesBeside}

-- `or` where `any` is true, else `and`: the truth of the first part goes to t, and the value of the whole to the next temporary
abbrev pub junction_block : ℕ → ℕ → Bool → Carrier → Carrier → tree.Block
junction_block line t true p q = if_block line t p.block p.value (moved (t + 1) p.value) (into (t + 1) q)
junction_block line t false p q = if_block line t p.block p.value (into (t + 1) q) (moved (t + 1) p.value)

abbrev pub conditional_block : ℕ → ℕ → Carrier → Carrier → Carrier → tree.Block
conditional_block line t test p q = if_block line t test.block test.value (into (t + 1) p) (into (t + 1) q)

-- a comparison with the part on its right; `negated` is true for `not in`
pub record Linked : Type 0 where
  pub op : Op
  pub negated : Bool
  pub right : Carrier

-- what two operands hold is compared, to the temporary t; where that is negated, by the next one
abbrev pub compared_block : ℕ → ℕ → Op → Bool → Operand → Operand → tree.Block
compared_block line t o false a b = alone (tree.Do t line o (argument.Value a ∷ argument.Value b ∷ []))
compared_block line t o true a b =
    tree.Follow (tree.Do (t + 1) line o (argument.Value a ∷ argument.Value b ∷ [])) (alone (tree.Do t line op.Not (of_temp (t + 1) ∷ [])))

-- the rest of a chain behind a comparison that is true
abbrev pub further_block : ℕ → ℕ → tree.Block → tree.Block
further_block line t rest = tree.Follow (tree.Do (t + 1) line op.Truth (of_temp t ∷ [])) (alone (tree.If (operand.Temp (t + 1)) rest tree.Stop))

-- the links of a chain behind an operand, by two temporaries
abbrev pub links_block : ℕ → ℕ → Operand → List Linked → tree.Block
links_block line t a [] = tree.Stop
links_block line t a (x ∷ []) = tree.append x.right.block (compared_block line t x.op x.negated a x.right.value)
links_block line t a (x ∷ y ∷ xs) =
    tree.append x.right.block (tree.append (compared_block line t x.op x.negated a x.right.value)
    (further_block line t (links_block line t x.right.value (y ∷ xs))))

abbrev pub comparison_block : ℕ → ℕ → Carrier → List Linked → tree.Block
comparison_block line t p xs = tree.append p.block (links_block line t p.value xs)

abbrev pub CarriesLink : Homes → ℕ → ℕ → Operand → Op → Bool → syntax.Expression → Linked → Type 0
CarriesLink h low high a o negated x p = (o ≡ p.op) × (negated ≡ p.negated) × CarriesBeside h low high a x p.right

-- each operand is kept over the part on its right
abbrev pub CarriesLinks : Homes → ℕ → ℕ → Operand → syntax.Links → List Linked → Type 0
CarriesLinks h low high a (syntax.LastLink o negated x) (p ∷ []) = CarriesLink h low high a o negated x p
CarriesLinks h low high a (syntax.Link o negated x links) (p ∷ q ∷ ps) =
    CarriesLink h low high a o negated x p × CarriesLinks h low high p.right.value links (q ∷ ps)
CarriesLinks h low high a links ps = ⊥
