-- What stands in the block of a `with` beside what stands in its parts.
use Rattle.std.specs.Prelude.{ℕ, ◌+◌, [], ◌∷◌, Bool, codes}
use Rattle.op_forms.specs.declared.op.Op.TheVariants as op
use Rattle.code_forms.specs.declared.operand.Argument.TheVariants as argument
use Rattle.code_forms.specs.declared.operand.Operand.{Operand}
use Rattle.node_tree.specs.Blocks.{of_temp}
use Rattle.node_tree.specs.Blocks as tree
use Rattle.carries_control.specs.Finish.{none, guarded, leaving_block}
use Rattle.reform_blocks.specs.Standing.{Content, asked_standing}

-- by the temporaries from t on
abbrev pub with_asks : (Content → Bool) → ℕ → Operand → ℕ
with_asks test t o =
    asked_standing test op.Manager (argument.Value o ∷ argument.Name (codes "__enter__") ∷ []) + asked_standing test op.Manager (argument.Value o ∷ argument.Name (codes "__exit__") ∷ [])
    + asked_standing test op.Call (of_temp (t + 5) ∷ []) + asked_standing test op.ClassOf (of_temp t ∷ []) + asked_standing test op.Trace (of_temp t ∷ [])
    + asked_standing test op.Call (of_temp (t + 6) ∷ of_temp (t + 7) ∷ of_temp t ∷ of_temp (t + 7 + 1) ∷ []) + asked_standing test op.Truth (of_temp (t + 7 + 2) ∷ [])
    + asked_standing test op.Call (of_temp (t + 6) ∷ none ∷ none ∷ none ∷ [])

-- what follows the manager
abbrev pub managed_block : ℕ → ℕ → ℕ → Operand → tree.Block → tree.Block
managed_block line t item o inside =
    tree.Follow (tree.Do (t + 5) line op.Manager (argument.Value o ∷ argument.Name (codes "__enter__") ∷ [])) (tree.Follow (tree.Do (t + 6) line op.Manager (argument.Value o ∷ argument.Name (codes "__exit__") ∷ []))
    (tree.Follow (tree.Do item line op.Call (of_temp (t + 5) ∷ [])) (tree.Follow (guarded t inside) (leaving_block line t (t + 6) (t + 7)))))
