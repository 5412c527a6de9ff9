-- The links of chains, as the laws read them, and their comparisons one by one.
use Rattle.std.specs.Prelude.{ℕ, List, [], ◌∷◌}
use Rattle.code_forms.specs.declared.operand.Operand.{Operand}
use Rattle.node_tree.specs.Blocks as tree
use Rattle.carries_values.specs.Choices.{Linked, compared_block, further_block}
use Rattle.reform_blocks.specs.Parts.{carrier}
use Rattle.reform_values.specs.declared.chains.Link.{Link}

abbrev pub linked_of : Link → Linked
linked_of l = record { op = l.op; negated = l.negated; right = carrier l.right }

-- a comparison behind the part on its right
abbrev pub step_block : ℕ → ℕ → Operand → Linked → tree.Block
step_block line t a x = tree.append x.right.block (compared_block line t x.op x.negated a x.right.value)

-- each with the value on its left
abbrev pub step_blocks : ℕ → ℕ → Operand → List Linked → List tree.Block
step_blocks line t a [] = []
step_blocks line t a (x ∷ xs) = step_block line t a x ∷ step_blocks line t x.right.value xs

-- the value on the left of what comes behind
abbrev pub last_value : Operand → List Linked → Operand
last_value a [] = a
last_value a (x ∷ xs) = last_value x.right.value xs

-- each where those before it are true
abbrev pub nested : ℕ → ℕ → List tree.Block → tree.Block
nested line t [] = tree.Stop
nested line t (b ∷ []) = b
nested line t (b ∷ c ∷ bs) = tree.append b (further_block line t (nested line t (c ∷ bs)))
