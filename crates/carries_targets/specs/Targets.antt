-- The primitive statements of assignments to attributes, to indices and to lists of targets.
use Rattle.std.specs.Prelude.{ℕ, ◌+◌, pos, List, [], ◌∷◌}
use Rattle.op_forms.specs.declared.constant.Const.TheVariants as const
use Rattle.op_forms.specs.declared.op.Op.TheVariants as op
use Rattle.code_forms.specs.declared.operand.Argument.{Argument}
use Rattle.code_forms.specs.declared.operand.Argument.TheVariants as argument
use Rattle.code_forms.specs.declared.operand.Operand.{Operand}
use Rattle.code_forms.specs.declared.operand.Operand.TheVariants as operand
use Rattle.node_tree.specs.Blocks.{alone, of_temp}
use Rattle.node_tree.specs.Blocks as tree
use Rattle.carries_targets.specs.Places.{Taker}

-- the part of an attribute, in a, and the value, in o
abbrev pub attribute_block : ℕ → ℕ → tree.Block → Operand → List ℕ → Operand → tree.Block
attribute_block line to xb a name o = tree.append xb (alone (tree.Do to line op.SetAttr (argument.Value a ∷ argument.Name name ∷ argument.Value o ∷ [])))

-- the parts of an index, in a and i
abbrev pub index_block : ℕ → ℕ → tree.Block → Operand → tree.Block → Operand → Operand → tree.Block
index_block line to xb a yb i o =
    tree.append xb (tree.append yb (alone (tree.Do to line op.SetIndex (argument.Value a ∷ argument.Value i ∷ argument.Value o ∷ []))))

abbrev pub numeral : ℕ → Argument
numeral n = argument.Value (operand.Const (const.Int (pos n)))

-- the items of a list, from a number on, go to targets; and what follows
abbrev pub items_block : ℕ → ℕ → ℕ → List Taker → tree.Block → tree.Block
items_block line list n [] last = last
items_block line list n (p ∷ ps) last = tree.Follow (tree.Do p.item line op.Index (of_temp list ∷ numeral n ∷ [])) (tree.append p.block (items_block line list (n + 1) ps last))

-- the value, of so many items, is unpacked
abbrev pub each_block : ℕ → ℕ → ℕ → Operand → List Taker → tree.Block
each_block line list n o ps = tree.Follow (tree.Do list line op.Unpack (argument.Value o ∷ numeral n ∷ [])) (items_block line list 0 ps tree.Stop)

-- with so many items before the star and so many behind it
abbrev pub starred_block : ℕ → ℕ → ℕ → ℕ → Operand → List Taker → Taker → List Taker → tree.Block
starred_block line list n m o ps star qs =
    tree.Follow (tree.Do list line op.UnpackStar (argument.Value o ∷ numeral n ∷ numeral m ∷ []))
    (items_block line list 0 ps (items_block line list n (star ∷ []) (items_block line list (n + 1) qs tree.Stop)))
