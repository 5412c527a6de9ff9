-- Attributes, what indices lead to, and several targets, deleted.
use Rattle.std.proofs.Common.{ℕ, ◌+◌, ◌≤◌, List, [], ◌∷◌, refl, arith}
use Rattle.op_forms.specs.declared.op.Op.TheVariants as op
use Rattle.code_forms.specs.declared.operand.Argument.TheVariants as argument
use Rattle.code_forms.specs.declared.operand.Operand.{Operand}
use Rattle.node_tree.specs.Blocks as tree
use Rattle.py_meaning.specs.Syntax as syntax
use Rattle.py_meaning.specs.Frames as python
use Rattle.carries_base.specs.Frames.{Homes, behind, Holds, IsOff}
use Rattle.carries_base.specs.Carries.{EndsAs, CarriesExpression}
use Rattle.carries_base.specs.Laws.{Within}
use Rattle.carries_base.proofs.Facts.{outside_off, outside_less}
use Rattle.carries_base.proofs.Sequence.{seq_carried}
use Rattle.carries_base.proofs.Small.{within_off}
use Rattle.carries_names.specs.Names.{CarriesDeletion, CarriesDeletions}
use Rattle.carries_control.proofs.Steps.{passing, value_then, do_last}
use Rattle.carries_targets.specs.Deletions.{attribute_deleted, index_deleted}
use Rattle.carries_targets.proofs.Parts.{two_values, parts_off, index_then}

pub attribute_carried : (h : Homes) (low to xl xh line : ℕ) (x : syntax.Expression) (name : List ℕ) (xb : tree.Block) (a : Operand) → behind h ≤ low → Within low to xl xh → CarriesExpression h xl xh x xb a → CarriesDeletion h low (to + 1) (syntax.ToAttribute line x name) (attribute_deleted line to xb a name)
attribute_carried h low to xl xh line x name xb a st wx cx =
    let l₁ : low ≤ xl = wx.0 in
    let l₂ : xl ≤ xh = cx.grows in
    let l₃ : xh ≤ to = wx.1 in
    let above : behind h ≤ to = omega arith in
    record {
      starts = st;
      grows = omega arith;
      carries = λ z fs out.
          value_then z h fs (EndsAs z h 0 (λ w. fs) fs) (passing z h 0 fs) fs xl xh x xb a _ _ (λ c g y. y) cx (outside_less h low (to + 1) xl xh fs l₁ (omega arith) out)
          (λ u. do_last z h 0 fs (Holds a u ∷ fs) line to op.DelAttr (u ∷ python.text name ∷ []) (argument.Value a ∷ argument.Name name ∷ []) (λ c g y. y.1) above
          (within_off xl xh to a u fs cx.within l₃ (outside_off h low (to + 1) to fs (omega arith) (omega arith) out))
          (λ c g y. two_values g (argument.Value a) (argument.Name name) u (python.text name) y.0 refl));
    }

pub index_carried : (h : Homes) (low to xl xh yl yh line : ℕ) (x y : syntax.Expression) (xb yb : tree.Block) (a i : Operand) → behind h ≤ low → Within low to xl xh → Within low to yl yh → IsOff h yl yh a → CarriesExpression h xl xh x xb a → CarriesExpression h yl yh y yb i → CarriesDeletion h low (to + 1) (syntax.ToIndex line x y) (index_deleted line to xb a yb i)
index_carried h low to xl xh yl yh line x y xb yb a i st wx wy kept cx cy =
    let l₁ : low ≤ xl = wx.0 in
    let l₂ : xl ≤ xh = cx.grows in
    let l₃ : xh ≤ to = wx.1 in
    let l₄ : yh ≤ to = wy.1 in
    let above : behind h ≤ to = omega arith in
    record {
      starts = st;
      grows = omega arith;
      carries = λ z fs out.
          index_then z h fs (EndsAs z h 0 (λ w. fs) fs) low to xl xh yl yh x y xb yb a i _ _ (passing z h 0 fs) wx wy kept cx cy (outside_less h low (to + 1) low to fs (omega arith) (omega arith) out)
          (λ u w. do_last z h 0 fs (Holds i w ∷ Holds a u ∷ fs) line to op.DelIndex (u ∷ w ∷ []) (argument.Value a ∷ argument.Value i ∷ []) (λ c g y. y.1.1) above
          (parts_off xl xh yl yh to a i u w fs cx.within cy.within l₃ l₄ (outside_off h low (to + 1) to fs (omega arith) (omega arith) out))
          (λ c g y. two_values g (argument.Value a) (argument.Value i) u w y.1.0 y.0));
    }

pub also_carried : (h : Homes) (low high al ah bl bh : ℕ) (x : syntax.Target) (xs : syntax.Targets) (a b : tree.Block) → behind h ≤ low → Within low high al ah → Within low high bl bh → CarriesDeletion h al ah x a → CarriesDeletions h bl bh xs b → CarriesDeletions h low high (syntax.AlsoTo x xs) (tree.append a b)
also_carried h low high al ah bl bh x xs a b st wa wb ca cb =
    let l₁ : low ≤ al = wa.0 in
    let l₂ : al ≤ ah = ca.grows in
    let l₃ : ah ≤ high = wa.1 in
    record {
      starts = st;
      grows = omega arith;
      carries = λ z fs out. seq_carried z h 0 (λ w. fs) (λ w. fs) fs _ _ a b (λ w c g y. y)
          (ca.carries z fs (outside_less h low high al ah fs wa.0 wa.1 out))
          (λ w. cb.carries z fs (outside_less h low high bl bh fs wb.0 wb.1 out));
    }
