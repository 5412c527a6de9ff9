-- The primitive statements of a clause that always runs, and of `with`.
use Rattle.std.specs.Prelude.{ℕ, ◌+◌, [], ◌∷◌, true, false, codes}
use Rattle.op_forms.specs.declared.constant.Const.TheVariants as const
use Rattle.op_forms.specs.declared.op.Op.TheVariants as op
use Rattle.code_forms.specs.declared.operand.Argument.{Argument}
use Rattle.code_forms.specs.declared.operand.Argument.TheVariants as argument
use Rattle.code_forms.specs.declared.operand.Operand.{Operand}
use Rattle.code_forms.specs.declared.operand.Operand.TheVariants as operand
use Rattle.node_tree.specs.Blocks.{alone, flag, of_temp}
use Rattle.node_tree.specs.Blocks as tree
use Rattle.node_redirect.specs.Redirect.{redirect}

-- a block in a loop, which each of its ends leaves, but for a stop
abbrev pub guarded_block : ℕ → tree.Block → tree.Block
guarded_block t b =
    tree.Follow (tree.Catch t (redirect t b 0) (tree.Follow (flag (t + 1) true) (tree.Follow (flag (t + 2) true) (alone (tree.Leave 1)))))
    (tree.Follow (flag (t + 1) false) (tree.Follow (flag (t + 2) false) (alone (tree.Leave 1))))

abbrev pub guarded : ℕ → tree.Block → tree.Form
guarded t b = tree.Loop (guarded_block t b)

-- the end that was pending goes on: which loops it leaves; a return before that; a value before that, and an exception first
abbrev pub further : ℕ → tree.Block
further t = alone (tree.If (operand.Temp (t + 4)) (alone (tree.Leave 2)) (alone (tree.Leave 1)))

abbrev pub outside : ℕ → tree.Block
outside t = alone (tree.If (operand.Temp (t + 3)) (alone (tree.Return (operand.Temp t))) (further t))

abbrev pub onward : ℕ → tree.Block
onward t = alone (tree.If (operand.Temp (t + 1)) (outside t) tree.Stop)

abbrev pub raised_or : ℕ → tree.Block → tree.Block
raised_or t b = alone (tree.If (operand.Temp (t + 2)) (alone (tree.Raise (operand.Temp t))) b)

-- a clause that runs after every end
abbrev pub finally_block : ℕ → tree.Block → tree.Block → tree.Block
finally_block t bb lb = tree.Follow (guarded t bb) (tree.append lb (raised_or t (onward t)))

-- `__exit__`, which stands in the temporary `leave`, is called after each end, and tells of an exception whether that ends here; by four
-- temporaries from u on
abbrev pub exits_block : ℕ → ℕ → ℕ → ℕ → tree.Block
exits_block line t leave u =
    tree.Follow (tree.Do u line op.ClassOf (of_temp t ∷ [])) (tree.Follow (tree.Do (u + 1) line op.Trace (of_temp t ∷ []))
    (tree.Follow (tree.Do (u + 2) line op.Call (of_temp leave ∷ of_temp u ∷ of_temp t ∷ of_temp (u + 1) ∷ [])) (tree.Follow (tree.Do (u + 3) line op.Truth (of_temp (u + 2) ∷ []))
    (alone (tree.If (operand.Temp (u + 3)) tree.Stop (alone (tree.Raise (operand.Temp t))))))))

abbrev pub none : Argument
none = argument.Value (operand.Const const.None)

abbrev pub others_block : ℕ → ℕ → ℕ → ℕ → tree.Block
others_block line t leave u = tree.Follow (tree.Do (u + 2) line op.Call (of_temp leave ∷ none ∷ none ∷ none ∷ [])) (onward t)

abbrev pub leaving_block : ℕ → ℕ → ℕ → ℕ → tree.Block
leaving_block line t leave u =
    alone (tree.If (operand.Temp (t + 2)) (exits_block line t leave u) (others_block line t leave u))

-- what `__enter__` gives goes to `value`, which is bound; eleven temporaries
abbrev pub with_block : ℕ → ℕ → ℕ → tree.Block → Operand → tree.Block → tree.Block → tree.Block
with_block line t value mb o bind bb =
    tree.append mb (tree.Follow (tree.Do (t + 5) line op.Manager (argument.Value o ∷ argument.Name (codes "__enter__") ∷ [])) (tree.Follow (tree.Do (t + 6) line op.Manager (argument.Value o ∷ argument.Name (codes "__exit__") ∷ []))
    (tree.Follow (tree.Do value line op.Call (of_temp (t + 5) ∷ [])) (tree.Follow (guarded t (tree.append bind bb)) (leaving_block line t (t + 6) (t + 7))))))
