-- A `yield from`, of its steps.
use Rattle.std.proofs.Common.{◌≡◌, ℕ, ◌+◌, false, List, [], ◌∷◌, refl, sym, ap, ◌∙◌}
use Rattle.op_forms.specs.declared.op.Op.TheVariants as op
use Rattle.code_forms.specs.declared.operand.Argument.TheVariants as argument
use Rattle.code_forms.specs.declared.operand.Operand.TheVariants as operand
use Rattle.node_tree.specs.Blocks.{alone, flag, of_temp}
use Rattle.node_tree.specs.Blocks as tree
use Rattle.carries_base.specs.Carries.{Carrier}
use Rattle.carries_control.specs.Loops.{attempt}
use Rattle.carried_codes.specs.Parts.{Valued, valued}
use Rattle.carried_codes.specs.Expressions as expressions
use Rattle.reform_values.specs.Delegating.{turn_block, never_block, turns_block}
use Rattle.reform_values.proofs.Joined.{append_block}

abbrev iterator : ℕ → ℕ → Carrier → tree.Form
iterator line t p = tree.Do t line op.Iter (argument.Value p.value ∷ [])

abbrev begins : ℕ → ℕ → tree.Block
begins line t =
    tree.Follow (flag (t + 2) false) (tree.Follow (attempt (t + 3) (t + 2) (alone (tree.Do (t + 1) line op.Next (of_temp t ∷ []))))
    (alone (tree.If (operand.Temp (t + 2)) (never_block line t) (turns_block line t))))

pub delegated : (line t : ℕ) (p : Carrier) (whole first rest : tree.Block) → whole ≡ tree.append first rest → first ≡ tree.append p.block (alone (iterator line t p)) → rest ≡ begins line t → valued whole (operand.Temp (t + 7)) (t + 13) ≡ expressions.delegate line p t
unfolding expressions.delegate turn_block never_block turns_block
delegated line t p whole first rest ew ef er =
    ap (λ b. valued b (operand.Temp (t + 7)) (t + 13))
    (ew ∙ ap (λ x. tree.append x rest) ef ∙ append_block p.block (alone (iterator line t p)) rest
    ∙ ap (λ r. tree.append p.block (tree.Follow (iterator line t p) r)) er)
