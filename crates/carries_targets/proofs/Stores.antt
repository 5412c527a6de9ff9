-- Attributes and indices that are assigned to.
use Rattle.std.proofs.Common.{ℕ, ◌+◌, ◌≤◌, List, [], ◌∷◌, refl, arith}
use Rattle.nu_value.specs.declared.value.Value.{Value}
use Rattle.op_forms.specs.declared.op.Op.TheVariants as op
use Rattle.code_forms.specs.declared.operand.Argument.TheVariants as argument
use Rattle.code_forms.specs.declared.operand.Operand.{Operand}
use Rattle.node_tree.specs.Blocks as tree
use Rattle.py_meaning.specs.Syntax as syntax
use Rattle.py_meaning.specs.Frames as python
use Rattle.carries_base.specs.Frames.{Homes, behind, Holds, IsOff}
use Rattle.carries_base.specs.Carries.{EndsAs, CarriesExpression, CarriesGiven}
use Rattle.carries_base.specs.Laws.{Within}
use Rattle.carries_base.proofs.Facts.{outside_off, outside_less}
use Rattle.carries_base.proofs.Small.{within_off}
use Rattle.carries_control.proofs.Steps.{passing, value_then, do_last}
use Rattle.carries_targets.specs.Places.{CarriesDrawn, CarriesPlace}
use Rattle.carries_targets.specs.Targets.{attribute_block, index_block}
use Rattle.carries_targets.proofs.Parts.{three_values, parts_off, index_then}

pub bare_placed : (h : Homes) (low high from to : ℕ) (o : Operand) (r : python.L → Value → python.R) (b : tree.Block) → behind h ≤ low → low ≤ high → high ≤ from → CarriesGiven h from to o r b → CarriesDrawn h low high from to o r b
bare_placed h low high from to o r b st le apart c = record {
  starts = st;
  parts = le;
  follows = apart;
  draws = c.grows;
  carries = λ z fs v out drawn knows. c.carries z fs v drawn knows;
}

pub whole_carried : (h : Homes) (low high from to : ℕ) (o : Operand) (r : python.L → Value → python.R) (b : tree.Block) → CarriesDrawn h low high from to o r b → CarriesGiven h low to o r b
whole_carried h low high from to o r b c =
    let l₁ : low ≤ high = c.parts in
    let l₂ : high ≤ from = c.follows in
    let l₃ : from ≤ to = c.draws in
    record {
      starts = c.starts;
      grows = omega arith;
      carries = λ z fs v out knows. c.carries z fs v (outside_less h low to low high fs (omega arith) (omega arith) out) (outside_less h low to from to fs (omega arith) (omega arith) out) knows;
    }

pub wider_placed : (h : Homes) (low high from to l r first last : ℕ) (o : Operand) (row : python.L → Value → python.R) (b : tree.Block) → behind h ≤ low → high ≤ from → Within low high l r → Within from to first last → CarriesDrawn h l r first last o row b → CarriesDrawn h low high from to o row b
wider_placed h low high from to l r first last o row b st le parts draws c =
    let l₁ : l ≤ r = c.parts in
    let l₂ : first ≤ last = c.draws in
    let l₃ : low ≤ l = parts.0 in
    let l₄ : r ≤ high = parts.1 in
    let l₅ : from ≤ first = draws.0 in
    let l₆ : last ≤ to = draws.1 in
    record {
      starts = st;
      parts = omega arith;
      follows = le;
      draws = omega arith;
      carries = λ z fs v out drawn knows. c.carries z fs v (outside_less h low high l r fs l₃ l₄ out) (outside_less h from to first last fs l₅ l₆ drawn) knows;
    }

pub attribute_placed : (h : Homes) (low high to line : ℕ) (o : Operand) (x : syntax.Expression) (name : List ℕ) (xb : tree.Block) (a : Operand) → high ≤ to → CarriesExpression h low high x xb a → CarriesPlace h low high to (to + 1) o (syntax.ToAttribute line x name) (attribute_block line to xb a name o)
attribute_placed h low high to line o x name xb a le cx =
    let st : behind h ≤ low = cx.starts in
    let l₁ : low ≤ high = cx.grows in
    let above : behind h ≤ to = omega arith in
    record {
      starts = st;
      parts = l₁;
      follows = le;
      draws = omega arith;
      carries = λ z fs v out drawn knows.
          value_then z h fs (EndsAs z h 0 (λ w. fs) fs) (passing z h 0 fs) fs low high x xb a _ _ (λ c g y. y) cx out
          (λ u. do_last z h 0 fs (Holds a u ∷ fs) line to op.SetAttr (u ∷ python.text name ∷ v ∷ []) (argument.Value a ∷ argument.Name name ∷ argument.Value o ∷ []) (λ c g y. y.1) above
          (within_off low high to a u fs cx.within le (outside_off h to (to + 1) to fs (omega arith) (omega arith) drawn))
          (λ c g y. three_values g (argument.Value a) (argument.Name name) (argument.Value o) u (python.text name) v y.0 refl (knows c g y.1)));
    }

pub index_placed : (h : Homes) (low high xl xh yl yh to line : ℕ) (o : Operand) (x y : syntax.Expression) (xb yb : tree.Block) (a i : Operand) → behind h ≤ low → high ≤ to → Within low high xl xh → Within low high yl yh → IsOff h yl yh a → CarriesExpression h xl xh x xb a → CarriesExpression h yl yh y yb i → CarriesPlace h low high to (to + 1) o (syntax.ToIndex line x y) (index_block line to xb a yb i o)
index_placed h low high xl xh yl yh to line o x y xb yb a i st le wx wy kept cx cy =
    let l₁ : xl ≤ xh = cx.grows in
    let l₂ : low ≤ xl = wx.0 in
    let l₃ : xh ≤ high = wx.1 in
    let l₄ : yh ≤ high = wy.1 in
    let above : behind h ≤ to = omega arith in
    record {
      starts = st;
      parts = omega arith;
      follows = le;
      draws = omega arith;
      carries = λ z fs v out drawn knows.
          index_then z h fs (EndsAs z h 0 (λ w. fs) fs) low high xl xh yl yh x y xb yb a i _ _ (passing z h 0 fs) wx wy kept cx cy out
          (λ u w. do_last z h 0 fs (Holds i w ∷ Holds a u ∷ fs) line to op.SetIndex (u ∷ w ∷ v ∷ []) (argument.Value a ∷ argument.Value i ∷ argument.Value o ∷ []) (λ c g y. y.1.1) above
          (parts_off xl xh yl yh to a i u w fs cx.within cy.within (omega arith) (omega arith) (outside_off h to (to + 1) to fs (omega arith) (omega arith) drawn))
          (λ c g y. three_values g (argument.Value a) (argument.Value i) (argument.Value o) u w v y.1.0 y.0 (knows c g y.1.1)));
    }
