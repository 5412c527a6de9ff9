-- The primitive statements of comprehensions: in the scope around them, and in their own.
use Rattle.std.specs.Prelude.{ℕ, ◌+◌, List, [], ◌∷◌, false}
use Rattle.op_forms.specs.declared.constant.Const.TheVariants as const
use Rattle.op_forms.specs.declared.op.Op.{Op}
use Rattle.op_forms.specs.declared.op.Op.TheVariants as op
use Rattle.code_forms.specs.declared.operand.Argument.TheVariants as argument
use Rattle.code_forms.specs.declared.operand.Operand.{Operand}
use Rattle.code_forms.specs.declared.operand.Operand.TheVariants as operand
use Rattle.node_tree.specs.Blocks.{alone, of_temp}
use Rattle.node_tree.specs.Blocks as tree
use Rattle.py_meaning.specs.Syntax as syntax
use Rattle.py_meaning.specs.Bodies.{turns}
use Rattle.carries_base.specs.Frames.{Homes}
use Rattle.carries_base.specs.Carries.{CarriesGiven}
use Rattle.carries_base.specs.Laws.{if_block}
use Rattle.carries_control.specs.Loops.{for_turn_block}
use Rattle.carries_definitions.specs.Decorated.{bare_block}

-- the function of a comprehension is called with the iterator of its first iterable; five temporaries, the last for the value
abbrev pub comprehension_block : Homes → ℕ → ℕ → ℕ → tree.Block → Operand → List syntax.CellPlace → tree.Block
comprehension_block h t line code xb o cells =
    tree.append xb (tree.Follow (tree.Do t line op.Iter (argument.Value o ∷ [])) (tree.append (bare_block h (t + 1) line code cells) (alone (tree.Do (t + 4) line op.Call (of_temp (t + 1 + 2) ∷ of_temp t ∷ [])))))

-- the block carries what a comprehension does in its first loop; the operand holds what it collects into
abbrev pub CarriesTurns : Homes → ℕ → ℕ → ℕ → Operand → syntax.Turns → tree.Block → Type 0
CarriesTurns h low high line o inner b = CarriesGiven h low high o (λ l v. turns l line v inner) b

abbrev pub push_block : ℕ → ℕ → Operand → tree.Block → Operand → tree.Block
push_block line t into xb o = tree.append xb (alone (tree.Do t line op.Push (argument.Value into ∷ argument.Value o ∷ [])))

abbrev pub entry_block : ℕ → ℕ → Operand → tree.Block → Operand → tree.Block → Operand → tree.Block
entry_block line t into kb k xb o = tree.append kb (tree.append xb (alone (tree.Do t line op.Put (argument.Value into ∷ argument.Value k ∷ argument.Value o ∷ []))))

abbrev pub emit_block : ℕ → ℕ → tree.Block → Operand → tree.Block
emit_block line t xb o = tree.append xb (alone (tree.Yield t line o))

abbrev pub filter_block : ℕ → ℕ → tree.Block → Operand → tree.Block → tree.Block
filter_block line t tb o b = if_block line t tb o b tree.Stop

-- a loop over the iterator in this temporary, by five temporaries as those of a `for`, of which the first gets the iterator
abbrev pub over_block : ℕ → ℕ → ℕ → ℕ → tree.Block → tree.Block → tree.Block
over_block line t item from bind bb =
    tree.Follow (tree.Copy t from) (tree.Follow (tree.Constant (t + 1) (const.Bool false))
    (tree.Follow (tree.Loop (for_turn_block line t item bind bb)) (alone (tree.If (operand.Temp (t + 1)) tree.Stop tree.Stop))))

-- what an operation makes is filled and returned
abbrev pub gathers_block : ℕ → ℕ → Op → tree.Block → tree.Block
gathers_block line into o b = tree.Follow (tree.Do into line o []) (tree.append b (alone (tree.Return (operand.Temp into))))
