-- The primitive statements of `yield from`.
use Rattle.std.specs.Prelude.{ℕ, ◌+◌, [], ◌∷◌, codes, false}
use Rattle.op_forms.specs.declared.constant.Const.TheVariants as const
use Rattle.op_forms.specs.declared.op.Op.TheVariants as op
use Rattle.code_forms.specs.declared.operand.Argument.TheVariants as argument
use Rattle.code_forms.specs.declared.operand.Operand.{Operand}
use Rattle.code_forms.specs.declared.operand.Operand.TheVariants as operand
use Rattle.node_tree.specs.Blocks.{alone, of_temp}
use Rattle.node_tree.specs.Blocks as tree
use Rattle.carries_control.specs.Raises.{stopped_block}
use Rattle.carries_control.specs.Loops.{attempt}

-- the iterator is in the first of the temporaries, what is carried in the second; then a flag, an exception, and what is sent

-- what is carried is yielded, and then this follows what is sent, or thrown
abbrev pub delegate_turn_block : ℕ → ℕ → tree.Block → tree.Block → tree.Block
delegate_turn_block line t sb hb =
    tree.Follow (tree.Constant (t + 2) (const.Bool false)) (tree.Follow (attempt (t + 3) (t + 2) (alone (tree.Yield (t + 4) line (operand.Temp (t + 1)))))
    (alone (tree.If (operand.Temp (t + 2)) hb sb)))

-- the value of a StopIteration
abbrev pub result_block : ℕ → ℕ → ℕ → tree.Block
result_block line x to = alone (tree.Do to line op.Attr (of_temp x ∷ argument.Name (codes "value") ∷ []))

-- the first value is carried to the first turn; two temporaries for the test of an exception, and the last for the value
abbrev pub delegate_block : ℕ → ℕ → tree.Block → Operand → tree.Block → tree.Block → tree.Block
delegate_block line t xb o sb hb =
    tree.append xb (tree.Follow (tree.Do t line op.Iter (argument.Value o ∷ [])) (tree.Follow (tree.Constant (t + 2) (const.Bool false))
    (tree.Follow (attempt (t + 3) (t + 2) (alone (tree.Do (t + 1) line op.Next (of_temp t ∷ []))))
    (alone (tree.If (operand.Temp (t + 2)) (stopped_block line (t + 3) (t + 5) (result_block line (t + 3) (t + 7)))
    (tree.Follow (tree.Loop (delegate_turn_block line t sb hb)) (result_block line (t + 1) (t + 7))))))))
