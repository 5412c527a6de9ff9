-- The primitive statements of augmented assignments. Three temporaries are drawn: for the old value, for what the operation gives, and
-- where the result is stored.
use Rattle.std.specs.Prelude.{ℕ, ◌+◌, List, [], ◌∷◌}
use Rattle.op_forms.specs.declared.op.Op.{Op}
use Rattle.op_forms.specs.declared.op.Op.TheVariants as op
use Rattle.code_forms.specs.declared.operand.Argument.TheVariants as argument
use Rattle.code_forms.specs.declared.operand.Operand.{Operand}
use Rattle.code_forms.specs.declared.operand.Operand.TheVariants as operand
use Rattle.node_tree.specs.Blocks.{alone, of_temp}
use Rattle.node_tree.specs.Blocks as tree
use Rattle.py_meaning.specs.Syntax as syntax
use Rattle.carries_base.specs.Frames.{Homes}
use Rattle.carries_names.specs.Names.{reads, stores}

-- the right side, in b, and the operation on it and on the old value, which is in t
abbrev pub operated_block : ℕ → ℕ → Op → tree.Block → Operand → tree.Block → tree.Block
operated_block line t o wb b last = tree.append wb (tree.Follow (tree.Do (t + 1) line o (of_temp t ∷ argument.Value b ∷ [])) last)

abbrev pub name_augmented : Homes → ℕ → ℕ → ℕ → Op → syntax.Home → tree.Block → Operand → tree.Block
name_augmented h at line t o home wb b = tree.Follow (reads h t at home) (operated_block line t o wb b (alone (stores h (t + 2) at home (operand.Temp (t + 1)))))

-- the part of an attribute, in a
abbrev pub attribute_augmented : ℕ → ℕ → ℕ → Op → tree.Block → Operand → List ℕ → tree.Block → Operand → tree.Block
attribute_augmented at line t o xb a name wb b =
    tree.append xb (tree.Follow (tree.Do t at op.Attr (argument.Value a ∷ argument.Name name ∷ []))
    (operated_block line t o wb b (alone (tree.Do (t + 2) at op.SetAttr (argument.Value a ∷ argument.Name name ∷ of_temp (t + 1) ∷ [])))))

-- the parts of an index, in a and i
abbrev pub index_augmented : ℕ → ℕ → ℕ → Op → tree.Block → Operand → tree.Block → Operand → tree.Block → Operand → tree.Block
index_augmented at line t o xb a yb i wb b =
    tree.append xb (tree.append yb (tree.Follow (tree.Do t at op.Index (argument.Value a ∷ argument.Value i ∷ []))
    (operated_block line t o wb b (alone (tree.Do (t + 2) at op.SetIndex (argument.Value a ∷ argument.Value i ∷ of_temp (t + 1) ∷ []))))))
