-- The primitive statements of a `for`.
use Rattle.std.specs.Prelude.{ℕ, ◌+◌, [], ◌∷◌, true, false}
use Rattle.op_forms.specs.declared.constant.Const.TheVariants as const
use Rattle.op_forms.specs.declared.op.Op.TheVariants as op
use Rattle.code_forms.specs.declared.operand.Argument.TheVariants as argument
use Rattle.code_forms.specs.declared.operand.Operand.{Operand}
use Rattle.code_forms.specs.declared.operand.Operand.TheVariants as operand
use Rattle.node_tree.specs.Blocks.{alone, of_temp}
use Rattle.node_tree.specs.Blocks as tree
use Rattle.carries_control.specs.Raises.{stopped_block}

-- an exception of this block goes to x, and the temporary `flag`, which is false before, tells that there was one
abbrev pub attempt : ℕ → ℕ → tree.Block → tree.Form
attempt x flag b = tree.Catch x b (alone (tree.Constant flag (const.Bool true)))

-- a turn: the next value of the iterator goes to `item`. What the exception of that operation leads to stands outside of its handler,
-- as the body does
abbrev pub for_turn_block : ℕ → ℕ → ℕ → tree.Block → tree.Block → tree.Block
for_turn_block line t item bind bb =
    tree.Follow (attempt (t + 2) (t + 1) (alone (tree.Do item line op.Next (of_temp t ∷ []))))
    (alone (tree.If (operand.Temp (t + 1)) (stopped_block line (t + 2) (t + 3) (alone (tree.Leave 1))) (alone (tree.Loop (tree.append (tree.append bind bb) (alone (tree.Leave 1)))))))

-- the iterator is in the first of five temporaries, and the second tells whether it is exhausted, which leads to `else`
abbrev pub for_block : ℕ → ℕ → ℕ → tree.Block → Operand → tree.Block → tree.Block → tree.Block → tree.Block
for_block line t item xb o bind bb ob =
    tree.append xb (tree.Follow (tree.Do t line op.Iter (argument.Value o ∷ [])) (tree.Follow (tree.Constant (t + 1) (const.Bool false))
    (tree.Follow (tree.Loop (for_turn_block line t item bind bb)) (alone (tree.If (operand.Temp (t + 1)) ob tree.Stop)))))
