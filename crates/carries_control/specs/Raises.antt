-- The primitive statements of `raise` and `assert`, and those behind an exception that may be a StopIteration.
use Rattle.std.specs.Prelude.{ℕ, ◌+◌, List, [], ◌∷◌, map, codes}
use Rattle.op_forms.specs.declared.op.Op.TheVariants as op
use Rattle.code_forms.specs.declared.operand.Argument.{Argument}
use Rattle.code_forms.specs.declared.operand.Argument.TheVariants as argument
use Rattle.code_forms.specs.declared.operand.Operand.{Operand}
use Rattle.code_forms.specs.declared.operand.Operand.TheVariants as operand
use Rattle.node_tree.specs.Blocks.{alone, of_temp}
use Rattle.node_tree.specs.Blocks as tree
use Rattle.carries_base.specs.Carries.{Carrier, joined}
use Rattle.carries_base.specs.Laws.{if_block}

-- what an operand holds is raised, by two temporaries from this one on
abbrev pub raise_block : ℕ → ℕ → Operand → tree.Block
raise_block line t o = tree.Follow (tree.Do t line op.Exc (argument.Value o ∷ [])) (alone (tree.Do (t + 1) line op.Raise (of_temp t ∷ [])))

-- an AssertionError of these texts is raised, by four temporaries
abbrev pub fails_block : ℕ → ℕ → List Argument → tree.Block
fails_block line t texts =
    tree.Follow (tree.Do t line op.Native (argument.Name (codes "AssertionError") ∷ [])) (tree.Follow (tree.Do (t + 1) line op.Call (of_temp t ∷ texts)) (raise_block line (t + 2) (operand.Temp (t + 1))))

-- where the test is false, the text is evaluated and raised; five temporaries, the first for the truth value
abbrev pub assert_block : ℕ → ℕ → tree.Block → Operand → List Carrier → tree.Block
assert_block line t tb o ps = if_block line t tb o tree.Stop (joined ps (fails_block line (t + 1) (map (λ p. argument.Value p.value) ps)))

-- where the exception in x is a StopIteration, this follows; any other is raised again; by two temporaries
abbrev pub stopped_block : ℕ → ℕ → ℕ → tree.Block → tree.Block
stopped_block line x t over =
    tree.Follow (tree.Do t line op.Native (argument.Name (codes "StopIteration") ∷ [])) (tree.Follow (tree.Do (t + 1) line op.Match (of_temp x ∷ of_temp t ∷ []))
    (alone (tree.If (operand.Temp (t + 1)) over (alone (tree.Raise (operand.Temp x))))))
