-- The primitive statements that delete attributes and what indices lead to.
use Rattle.std.specs.Prelude.{ℕ, List, [], ◌∷◌}
use Rattle.op_forms.specs.declared.op.Op.TheVariants as op
use Rattle.code_forms.specs.declared.operand.Argument.TheVariants as argument
use Rattle.code_forms.specs.declared.operand.Operand.{Operand}
use Rattle.node_tree.specs.Blocks.{alone}
use Rattle.node_tree.specs.Blocks as tree

abbrev pub attribute_deleted : ℕ → ℕ → tree.Block → Operand → List ℕ → tree.Block
attribute_deleted line to xb a name = tree.append xb (alone (tree.Do to line op.DelAttr (argument.Value a ∷ argument.Name name ∷ [])))

abbrev pub index_deleted : ℕ → ℕ → tree.Block → Operand → tree.Block → Operand → tree.Block
index_deleted line to xb a yb i = tree.append xb (tree.append yb (alone (tree.Do to line op.DelIndex (argument.Value a ∷ argument.Value i ∷ []))))
