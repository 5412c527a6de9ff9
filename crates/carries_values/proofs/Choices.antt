-- `and`, `or` and conditional expressions, where their parts are carried.
use Rattle.std.proofs.Common.{ℕ, ◌+◌, ◌<◌, ◌≤◌, Bool, true, false, [], ◌∷◌, Some, ap, arith}
use Rattle.nu_value.specs.declared.value.Value.{Value}
use Rattle.op_forms.specs.declared.op.Op.TheVariants as op
use Rattle.nu_rows.specs.Words.{then_value, choose}
use Rattle.code_forms.specs.declared.operand.Argument.TheVariants as argument
use Rattle.code_forms.specs.declared.operand.Operand.TheVariants as operand
use Rattle.node_tree.specs.Blocks as tree
use Rattle.node_tree.specs.Nodes as nodes
use Rattle.py_meaning.specs.Syntax as syntax
use Rattle.py_meaning.specs.Frames as python
use Rattle.py_meaning.specs.Expressions.{expression, gives, truth}
use Rattle.carries_base.specs.Frames.{Homes, behind, Holds, Facts, Outside}
use Rattle.carries_base.specs.Carries.{Setting, source, target, CarriedTo, Carrier, CarriesExpression}
use Rattle.carries_base.specs.Laws.{if_block}
use Rattle.carries_base.proofs.Facts.{Off, outside_off, outside_less}
use Rattle.carries_base.proofs.Carry.{AllEnds}
use Rattle.carries_base.proofs.Sequence.{Passes, strengthen, unvalued, one_by}
use Rattle.carries_base.proofs.Control.{branch_by}
use Rattle.carries_control.proofs.Steps.{value_then, do_then}
use Rattle.carries_values.specs.Parts.{moved, into, CarriesPart}
use Rattle.carries_values.specs.Choices.{junction_block, conditional_block}
use Rattle.carries_values.proofs.Parts.{Into, into_passes, outside_part, off_part, part_grows, gives_into, part_into}

module _ (z : Setting) (h : Homes) (low high line : ℕ) (fs : Facts) (st : behind h ≤ low) (le : low ≤ high) (out : Outside h low (high + 2) fs) where
  abbrev Q : AllEnds
  Q = Into z h (high + 1) fs

  below : Outside h low high fs
  below = outside_less h low (high + 2) low high fs (omega arith) (omega arith) out

  off : (d : ℕ) → high ≤ d → d < high + 2 → Off d fs
  off d l₁ l₂ = outside_off h low (high + 2) d fs (omega arith) l₂ out

  -- the truth of a part decides between two blocks
  chosen : (x : syntax.Expression) (p : Carrier) (R₁ R₂ : Value → python.R) (b d : tree.Block) → CarriesPart h low high x p → ((v : Value) → CarriedTo z h Q (Holds p.value v ∷ fs) (R₁ v) (nodes.block_row (target z) b)) → ((v : Value) → CarriedTo z h Q (Holds p.value v ∷ fs) (R₂ v) (nodes.block_row (target z) d)) → CarriedTo z h Q fs (then_value (expression (source z) x) (λ v. then_value (truth (source z) line v) (λ u. choose u (R₁ v) (R₂ v)))) (nodes.block_row (target z) (if_block line high p.block p.value b d))
  chosen x p R₁ R₂ b d c first second =
      let pass : Passes z h 0 (λ v. fs) fs Q = into_passes z h (high + 1) fs in
      value_then z h fs Q pass fs c.from c.to x p.block p.value _ _ (λ c g y. y) c.carries (outside_part h low high x p fs c below)
      (λ v. let gs : Facts = Holds p.value v ∷ fs in
      do_then z h fs Q pass gs line high op.Truth (v ∷ []) (argument.Value p.value ∷ []) _ _ (λ c g y. y.1) (omega arith)
      (off_part h low high high x p v fs c (omega arith) (off high (omega arith) (omega arith))) (λ c g y. ap (λ q. nodes.both q (Some [])) y.0)
      (λ u. let hs : Facts = Holds (operand.Temp high) u ∷ gs in
      one_by z h 0 _ Q _ _ (unvalued z h 0 (λ v. Holds (operand.Temp (high + 1)) v ∷ fs) fs)
      (branch_by z h _ Q (operand.Temp high) u (R₁ v) (R₂ v) b d (λ tabs s t y. y.frames.facts.0) (λ tabs s t y. tt)
      (strengthen z h 0 gs hs Q _ _ (λ c g y. y.1) (first v)) (strengthen z h 0 gs hs Q _ _ (λ c g y. y.1) (second v)))))

  -- another part is evaluated, or the value of the first is that of the whole
  another : (p : Carrier) (y : syntax.Expression) (q : Carrier) → CarriesPart h low high y q → (v : Value) → CarriedTo z h Q (Holds p.value v ∷ fs) (expression (source z) y) (nodes.block_row (target z) (into (high + 1) q))
  another p y q c v =
      strengthen z h 0 fs (Holds p.value v ∷ fs) Q _ _ (λ c g y. y.1)
      (part_into z h (high + 1) fs (omega arith) (off (high + 1) (omega arith) (omega arith)) fs (λ c g y. y) low high y q c below)

  itself : (p : Carrier) (v : Value) → CarriedTo z h Q (Holds p.value v ∷ fs) (gives v) (nodes.block_row (target z) (moved (high + 1) p.value))
  itself p v = gives_into z h (high + 1) fs (omega arith) (off (high + 1) (omega arith) (omega arith)) (Holds p.value v ∷ fs) (λ c g y. y.1) p.value v (λ c g y. y.0)

  junction_by : (any : Bool) (x y : syntax.Expression) (p q : Carrier) → CarriesPart h low high x p → CarriesPart h low high y q → CarriedTo z h Q fs (expression (source z) (syntax.Junction line any x y)) (nodes.block_row (target z) (junction_block line high any p q))
  junction_by true x y p q cp cq = chosen x p _ _ _ _ cp (itself p) (another p y q cq)
  junction_by false x y p q cp cq = chosen x p _ _ _ _ cp (another p y q cq) (itself p)

pub junction_carried : (h : Homes) (low high line : ℕ) (any : Bool) (x y : syntax.Expression) (p q : Carrier) → behind h ≤ low → CarriesPart h low high x p → CarriesPart h low high y q → CarriesExpression h low (high + 2) (syntax.Junction line any x y) (junction_block line high any p q) (operand.Temp (high + 1))
junction_carried h low high line any x y p q st cp cq =
    let le = part_grows h low high x p cp in
    record {
      starts = st;
      grows = omega arith;
      within = (omega arith, omega arith);
      carries = λ z fs out. junction_by z h low high line fs st le out any x y p q cp cq;
    }

pub conditional_carried : (h : Homes) (low high line : ℕ) (test x y : syntax.Expression) (o p q : Carrier) → behind h ≤ low → CarriesPart h low high test o → CarriesPart h low high x p → CarriesPart h low high y q → CarriesExpression h low (high + 2) (syntax.Conditional line test x y) (conditional_block line high o p q) (operand.Temp (high + 1))
conditional_carried h low high line test x y o p q st co cp cq =
    let le = part_grows h low high test o co in
    record {
      starts = st;
      grows = omega arith;
      within = (omega arith, omega arith);
      carries = λ z fs out. chosen z h low high line fs st le out test o _ _ _ _ co (another z h low high line fs st le out o x p cp) (another z h low high line fs st le out o y q cq);
    }
