-- Chains of comparisons, where their parts are carried.
use Rattle.std.proofs.Common.{◌≡◌, ℕ, ◌+◌, ◌<◌, ◌≤◌, Bool, true, false, List, [], ◌∷◌, Some, refl, sym, ap, ◌∙◌, subst, arith}
use Rattle.nu_value.specs.declared.value.Value.{Value}
use Rattle.op_forms.specs.declared.op.Op.{Op}
use Rattle.op_forms.specs.declared.op.Op.TheVariants as op
use Rattle.nu_rows.specs.Words.{then_value}
use Rattle.code_forms.specs.declared.operand.Argument.TheVariants as argument
use Rattle.code_forms.specs.declared.operand.Operand.{Operand}
use Rattle.code_forms.specs.declared.operand.Operand.TheVariants as operand
use Rattle.node_tree.specs.Blocks.{of_temp}
use Rattle.node_tree.specs.Blocks as tree
use Rattle.node_tree.specs.Nodes as nodes
use Rattle.py_meaning.specs.Syntax as syntax
use Rattle.py_meaning.specs.Frames as python
use Rattle.py_meaning.specs.Expressions.{expression, gives, compared, compare}
use Rattle.carries_base.specs.Frames.{Homes, behind, Holds, Facts, Fits, IsWithin, Outside}
use Rattle.carries_base.specs.Carries.{Setting, source, target, CarriedTo, Carrier, CarriesExpression, Knows}
use Rattle.carries_base.proofs.Facts.{Off, outside_off, outside_less, refit}
use Rattle.carries_base.proofs.Carry.{AllEnds, act_by}
use Rattle.carries_base.proofs.Sequence.{lessen, strengthen, seq_to, unvalued, one_by}
use Rattle.carries_base.proofs.Small.{within_off}
use Rattle.carries_base.proofs.Control.{branch_by}
use Rattle.carries_names.proofs.Functions.{Extends}
use Rattle.carries_control.proofs.Steps.{passed, value_then, do_then}
use Rattle.carries_values.specs.Parts.{CarriesPart}
use Rattle.carries_values.specs.Choices.{Linked, compared_block, links_block, comparison_block, CarriesLink, CarriesLinks}
use Rattle.carries_values.proofs.Parts.{Into, into_passes, outside_part, part_grows, within_part, operate_into}

-- two values are compared
compared_by : (z : Setting) (h : Homes) (gs : Facts) (line t : ℕ) (o : Op) (negated : Bool) (v w : Value) (a b : Operand) → behind h ≤ t → Off t gs → Off (t + 1) gs → Knows gs a v → Knows gs b w → CarriedTo z h (Into z h t gs) gs (compared (source z) line o negated v w) (nodes.block_row (target z) (compared_block line t o negated a b))
compared_by z h gs line t o negated v w a b above off off₁ ka kb = go negated
  where
    both : (c : Value) (g : nodes.Frame) → Fits gs c g → nodes.values g (argument.Value a ∷ argument.Value b ∷ []) ≡ Some (v ∷ w ∷ [])
    both c g y = ap (λ q. nodes.both q (nodes.both (nodes.operand_value g b) (Some []))) (ka c g y) ∙ ap (λ q. nodes.both (Some v) (nodes.both q (Some []))) (kb c g y)

    go : (negated : Bool) → CarriedTo z h (Into z h t gs) gs (compared (source z) line o negated v w) (nodes.block_row (target z) (compared_block line t o negated a b))
    go false = operate_into z h t gs above gs (λ c g y. y) line o (v ∷ w ∷ []) (argument.Value a ∷ argument.Value b ∷ []) off both
    go true =
        do_then z h gs (Into z h t gs) (into_passes z h t gs) gs line (t + 1) o (v ∷ w ∷ []) (argument.Value a ∷ argument.Value b ∷ []) _ _ (λ c g y. y) (omega arith) off₁ both
        (λ u. operate_into z h t gs above (Holds (operand.Temp (t + 1)) u ∷ gs) (λ c g y. y.1) line op.Not (u ∷ []) (of_temp (t + 1) ∷ []) (λ q. let e₁ : t + 1 ≡ t = q in omega arith, off) (λ c g y. ap (λ q. nodes.both q (Some [])) y.0))

module _ (z : Setting) (h : Homes) (low high line : ℕ) (fs : Facts) (st : behind h ≤ low) (le : low ≤ high) (out : Outside h low (high + 2) fs) where
  abbrev Q : AllEnds
  Q = Into z h high fs

  -- what is known of the two operands of a comparison
  abbrev two : Operand → Value → Linked → Value → Facts
  two a v p w = Holds p.right.value w ∷ Holds a v ∷ fs

  two_off : (a : Operand) (v : Value) (p : Linked) (w : Value) (d : ℕ) → IsWithin low high a → IsWithin low high p.right.value → high ≤ d → d < high + 2 → Off d (two a v p w)
  two_off a v p w d wa wb l₁ l₂ = within_off low high d p.right.value w (Holds a v ∷ fs) wb l₁ (within_off low high d a v fs wa l₁ (outside_off h low (high + 2) d fs (omega arith) l₂ out))

  right_then : (a : Operand) (v : Value) (o : Op) (negated : Bool) (x : syntax.Expression) (p : Linked) (K : Value → python.R) (rest : tree.Block) → CarriesLink h low high a o negated x p → ((w : Value) → CarriedTo z h Q (two a v p w) (K w) (nodes.block_row (target z) rest)) → CarriedTo z h Q (Holds a v ∷ fs) (then_value (expression (source z) x) K) (nodes.block_row (target z) (tree.append p.right.block rest))
  right_then a v o negated x p K rest c next =
      value_then z h fs Q (into_passes z h high fs) (Holds a v ∷ fs) c.2.0.from c.2.0.to x p.right.block p.right.value K rest (λ c g y. y.1) c.2.0.carries
      (c.2.1, outside_part h low high x p.right fs c.2.0 (outside_less h low (high + 2) low high fs (omega arith) (omega arith) out)) next

  -- a link's comparison
  linked_by : (a : Operand) (v w : Value) (o : Op) (negated : Bool) (x : syntax.Expression) (p : Linked) → IsWithin low high a → CarriesLink h low high a o negated x p → CarriedTo z h (Into z h high (two a v p w)) (two a v p w) (compared (source z) line o negated v w) (nodes.block_row (target z) (compared_block line high p.op p.negated a p.right.value))
  linked_by a v w o negated x p wa c =
      let gs : Facts = two a v p w in
      let wb : IsWithin low high p.right.value = within_part h low high x p.right c.2.0 in
      let b : nodes.R = nodes.block_row (target z) (compared_block line high p.op p.negated a p.right.value) in
      subst (λ i. CarriedTo z h (Into z h high gs) gs (compared (source z) line i negated v w) b) (sym c.0)
      (subst (λ n. CarriedTo z h (Into z h high gs) gs (compared (source z) line p.op n v w) b) (sym c.1)
      (compared_by z h gs line high p.op p.negated v w a p.right.value (omega arith) (two_off a v p w high wa wb (omega arith) (omega arith)) (two_off a v p w (high + 1) wa wb (omega arith) (omega arith)) (λ c g y. y.1.0) (λ c g y. y.0)))

  links_by : (a : Operand) (v : Value) (links : syntax.Links) (ps : List Linked) → IsWithin low high a → CarriesLinks h low high a links ps → CarriedTo z h Q (Holds a v ∷ fs) (compare (source z) line v links) (nodes.block_row (target z) (links_block line high a ps))
  links_by a v (syntax.LastLink o negated x) (p ∷ []) wa c =
      right_then a v o negated x p _ _ c
      (λ w. lessened (two a v p w) (λ c g y. y.1.1) _ _ (linked_by a v w o negated x p wa c))
    where
      lessened : (gs : Facts) → Extends gs fs → (r : python.R) (b : nodes.R) → CarriedTo z h (Into z h high gs) gs r b → CarriedTo z h Q gs r b
      lessened gs more r b x = lessen z h 0 (λ u. Holds (operand.Temp high) u ∷ gs) (λ u. Holds (operand.Temp high) u ∷ fs) fs gs r b (λ u c g y. (y.0, more c g y.1)) more x
  links_by a v (syntax.Link o negated x links) (p ∷ q ∷ ps) wa c =
      let wb : IsWithin low high p.right.value = within_part h low high x p.right c.0.2.0 in
      right_then a v o negated x p _ _ c.0
      (λ w. let gs : Facts = two a v p w in
      seq_to z h 0 (λ u. Holds (operand.Temp high) u ∷ gs) gs Q _ _ (compared_block line high p.op p.negated a p.right.value) _
      (passed z h fs Q (into_passes z h high fs) (λ u. Holds (operand.Temp high) u ∷ gs) gs (λ c g y. y.1.1))
      (linked_by a v w o negated x p wa c.0)
      (λ u. let hs : Facts = Holds (operand.Temp high) u ∷ gs in
      do_then z h fs Q (into_passes z h high fs) hs line (high + 1) op.Truth (u ∷ []) (of_temp high ∷ []) _ _ (λ c g y. y.1.1.1) (omega arith)
      (λ q. let e₁ : high ≡ high + 1 = q in omega arith, two_off a v p w (high + 1) wa wb (omega arith) (omega arith))
      (λ c g y. ap (λ q. nodes.both q (Some [])) y.0)
      (λ b. let is : Facts = Holds (operand.Temp (high + 1)) b ∷ hs in
      one_by z h 0 _ Q _ _ (unvalued z h 0 (λ v. Holds (operand.Temp high) v ∷ fs) fs)
      (branch_by z h _ Q (operand.Temp (high + 1)) b (compare (source z) line w links) (gives u) (links_block line high p.right.value (q ∷ ps)) tree.Stop
      (λ tabs s t y. y.frames.facts.0) (λ tabs s t y. tt)
      (strengthen z h 0 (Holds p.right.value w ∷ fs) is Q _ _ (λ c g y. (y.1.1.0, y.1.1.1.1)) (links_by p.right.value w links (q ∷ ps) wb c.1))
      (act_by z h _ Q _ _ (λ tabs s t y. (refl, refit z h tabs is (Holds (operand.Temp high) u ∷ fs) s t (λ q. (q.1.0, q.1.1.1.1)) y)))))))
  links_by a v (syntax.LastLink o negated x) [] wa c = absurd c
  links_by a v (syntax.LastLink o negated x) (p ∷ q ∷ ps) wa c = absurd c
  links_by a v (syntax.Link o negated x links) [] wa c = absurd c
  links_by a v (syntax.Link o negated x links) (p ∷ []) wa c = absurd c

pub comparison_carried : (h : Homes) (low high line : ℕ) (x : syntax.Expression) (links : syntax.Links) (p : Carrier) (ps : List Linked) → behind h ≤ low → CarriesPart h low high x p → CarriesLinks h low high p.value links ps → CarriesExpression h low (high + 2) (syntax.Comparison line x links) (comparison_block line high p ps) (operand.Temp high)
comparison_carried h low high line x links p ps st cp cl =
    let le = part_grows h low high x p cp in
    record {
      starts = st;
      grows = omega arith;
      within = (le, omega arith);
      carries = λ z fs out.
          value_then z h fs (Into z h high fs) (into_passes z h high fs) fs cp.from cp.to x p.block p.value _ _ (λ c g y. y) cp.carries
          (outside_part h low high x p fs cp (outside_less h low (high + 2) low high fs (omega arith) (omega arith) out))
          (λ v. links_by z h low high line fs st le out p.value v links ps (within_part h low high x p cp) cl);
    }
