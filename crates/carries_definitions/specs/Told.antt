-- The primitive statements that follow a value that is sent to the inner iterator of a `yield from`, or an exception that is thrown there.
use Rattle.std.specs.Prelude.{ℕ, ◌+◌, List, [], ◌∷◌, codes, false}
use Rattle.op_forms.specs.declared.constant.Const.TheVariants as const
use Rattle.op_forms.specs.declared.op.Op.{Op}
use Rattle.op_forms.specs.declared.op.Op.TheVariants as op
use Rattle.code_forms.specs.declared.operand.Argument.{Argument}
use Rattle.code_forms.specs.declared.operand.Argument.TheVariants as argument
use Rattle.code_forms.specs.declared.operand.Operand.TheVariants as operand
use Rattle.node_tree.specs.Blocks.{alone, of_temp}
use Rattle.node_tree.specs.Blocks as tree
use Rattle.carries_control.specs.Raises.{stopped_block}
use Rattle.carries_control.specs.Loops.{attempt}
use Rattle.carries_control.specs.Finish.{none}

-- what an operation gives is carried to the next turn; a StopIteration that it raises ends the loop, and is carried behind it
abbrev pub resumed_block : ℕ → ℕ → Op → List Argument → tree.Block
resumed_block line t o args =
    tree.Follow (tree.Constant (t + 2) (const.Bool false)) (tree.Follow (attempt (t + 3) (t + 2) (alone (tree.Do (t + 1) line o args)))
    (alone (tree.If (operand.Temp (t + 2)) (stopped_block line (t + 3) (t + 5) (tree.Follow (tree.Copy (t + 1) (t + 3)) (alone (tree.Leave 1)))) tree.Stop)))

abbrev pub told_block : ℕ → ℕ → ℕ → tree.Block → tree.Block → tree.Block
told_block line v to y n = tree.Follow (tree.Do to line op.Is (of_temp v ∷ none ∷ [])) (alone (tree.If (operand.Temp to) y n))

abbrev pub again_block : ℕ → tree.Block
again_block t = alone (tree.Raise (operand.Temp (t + 3)))

abbrev pub sent_block : ℕ → ℕ → tree.Block
sent_block line t =
    told_block line (t + 4) (t + 8) (resumed_block line t op.Next (of_temp t ∷ []))
    (tree.Follow (tree.Do (t + 9) line op.Attr (of_temp t ∷ argument.Name (codes "send") ∷ [])) (resumed_block line t op.Call (of_temp (t + 9) ∷ of_temp (t + 4) ∷ [])))

abbrev pub closed_block : ℕ → ℕ → tree.Block
closed_block line t =
    tree.Follow (tree.Do (t + 10) line op.Find (of_temp t ∷ argument.Name (codes "close") ∷ []))
    (told_block line (t + 10) (t + 11) (again_block t) (tree.Follow (tree.Do (t + 12) line op.Call (of_temp (t + 10) ∷ [])) (again_block t)))

abbrev pub threw_block : ℕ → ℕ → tree.Block
threw_block line t =
    tree.Follow (tree.Do (t + 10) line op.Find (of_temp t ∷ argument.Name (codes "throw") ∷ []))
    (told_block line (t + 10) (t + 11) (again_block t) (resumed_block line t op.Call (of_temp (t + 10) ∷ of_temp (t + 3) ∷ [])))

abbrev pub thrown_block : ℕ → ℕ → tree.Block
thrown_block line t =
    tree.Follow (tree.Do (t + 8) line op.Native (argument.Name (codes "GeneratorExit") ∷ [])) (tree.Follow (tree.Do (t + 9) line op.Match (of_temp (t + 3) ∷ of_temp (t + 8) ∷ []))
    (alone (tree.If (operand.Temp (t + 9)) (closed_block line t) (threw_block line t))))
