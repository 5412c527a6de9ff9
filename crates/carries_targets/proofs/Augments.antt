-- Augmented assignments to names, attributes and indices.
use Rattle.std.proofs.Common.{◌≡◌, inl, inr, ℕ, ◌+◌, ◌<◌, ◌≤◌, List, [], ◌∷◌, Option, Some, refl, arith}
use Rattle.nu_value.specs.declared.value.Value.{Value}
use Rattle.op_forms.specs.declared.op.Op.{Op}
use Rattle.op_forms.specs.declared.op.Op.TheVariants as op
use Rattle.nu_rows.specs.Words.{then_value}
use Rattle.nu_calls.specs.Calls.{operate}
use Rattle.code_forms.specs.declared.operand.Argument.TheVariants as argument
use Rattle.code_forms.specs.declared.operand.Operand.{Operand}
use Rattle.code_forms.specs.declared.operand.Operand.TheVariants as operand
use Rattle.node_tree.specs.Blocks.{of_temp}
use Rattle.node_tree.specs.Blocks as tree
use Rattle.node_tree.specs.Nodes as nodes
use Rattle.py_meaning.specs.Syntax as syntax
use Rattle.py_meaning.specs.Frames as python
use Rattle.py_meaning.specs.Expressions.{expression}
use Rattle.carries_base.specs.Frames.{Homes, HaveRoom, behind, Holds, Facts, Fits, IsOff, Outside}
use Rattle.carries_base.specs.Carries.{Setting, source, target, EndsAs, CarriedTo, CarriesExpression, CarriesStatement}
use Rattle.carries_base.specs.Laws.{Within}
use Rattle.carries_base.proofs.Facts.{Off, outside_off, outside_less}
use Rattle.carries_base.proofs.Carry.{AllEnds}
use Rattle.carries_base.proofs.Sequence.{Passes, lessen, more_leaves, then_to, unvalued, one_by}
use Rattle.carries_base.proofs.Small.{within_off}
use Rattle.carries_names.specs.Names.{HasPlace}
use Rattle.carries_names.proofs.Names.{loads, stored_at}
use Rattle.carries_names.proofs.Functions.{Extends}
use Rattle.carries_control.proofs.Steps.{passed, passing, value_then, do_then, do_last}
use Rattle.carries_targets.specs.Augments.{operated_block, name_augmented, attribute_augmented, index_augmented}
use Rattle.carries_targets.proofs.Parts.{off_behind, two_values, three_values, parts_off, index_then}

-- the right side, and the operation on it and on the old value, which t holds
operated_then : (z : Setting) (h : Homes) (fs : Facts) (Q : AllEnds) → Passes z h 0 (λ v. fs) fs Q → (gs : Facts) (low high line t : ℕ) (o : Op) (v : Value) (x : syntax.Expression) (xb : tree.Block) (b : Operand) (K : Value → python.R) (last : tree.Block) → Extends gs fs → CarriesExpression h low high x xb b → high ≤ t → Outside h low high gs → Off (t + 1) gs → ((c : Value) (g : nodes.Frame) → Fits gs c g → g.temps t ≡ Some v) → ((w u : Value) → CarriedTo z h Q (Holds (operand.Temp (t + 1)) u ∷ Holds b w ∷ gs) (K u) (nodes.block_row (target z) last)) → CarriedTo z h Q gs (then_value (expression (source z) x) (λ w. then_value (operate (source z) line o (v ∷ w ∷ [])) K)) (nodes.block_row (target z) (operated_block line t o xb b last))
operated_then z h fs Q pass gs low high line t o v x xb b K last more c le out off known next =
    let st : behind h ≤ low = c.starts in
    let l₁ : low ≤ high = c.grows in
    let above : behind h ≤ t + 1 = omega arith in
    value_then z h fs Q pass gs low high x xb b _ _ more c out
    (λ w. do_then z h fs Q pass (Holds b w ∷ gs) line (t + 1) o (v ∷ w ∷ []) (of_temp t ∷ argument.Value b ∷ []) K _ (λ c g y. more c g y.1) above (within_off low high (t + 1) b w gs c.within (omega arith) off)
    (λ c g y. two_values g (of_temp t) (argument.Value b) v w (known c g y.1) y.0)
    (λ u. next w u))

pub name_carried : (h : Homes) (low t wl wh at line : ℕ) (caught : Option ℕ) (o : Op) (home : syntax.Home) (w : syntax.Expression) (wb : tree.Block) (b : Operand) → HaveRoom h → HasPlace h home → behind h ≤ low → Within low t wl wh → CarriesExpression h wl wh w wb b → CarriesStatement h low (t + 3) caught (syntax.Augment line o (syntax.ToName at home) w) (name_augmented h at line t o home wb b)
name_carried h low t wl wh at line caught o home w wb b room has st ww cw =
    let l₁ : low ≤ wl = ww.0 in
    let l₂ : wh ≤ t = ww.1 in
    let l₃ : wl ≤ wh = cw.grows in
    let above : behind h ≤ t = omega arith in
    record {
      starts = st;
      grows = omega arith;
      carries = λ z fs handled out hd.
          let Q : AllEnds = EndsAs z h 2 (λ v. fs) fs in
          let old : Value → Facts = λ v. Holds (operand.Temp t) v ∷ fs in
          then_to z h 0 old fs Q _ _ _ _ (passed z h fs Q (passing z h 2 fs) old fs (λ c g y. y)) (loads z h t at room above fs home has (outside_off h low (t + 3) t fs (omega arith) (omega arith) out))
          (λ v. operated_then z h fs Q (passing z h 2 fs) (old v) wl wh line t o v w wb b _ _ (λ c g y. y.1) cw l₂
          ((above, inr l₂), outside_less h low (t + 3) wl wh fs l₁ (omega arith) out)
          (λ e. let e₁ : t ≡ t + 1 = e in omega arith, outside_off h low (t + 3) (t + 1) fs (omega arith) (omega arith) out)
          (λ c g y. y.0)
          (λ r u.
          let gs : Facts = Holds (operand.Temp (t + 1)) u ∷ Holds b r ∷ old v in
          one_by z h 2 _ Q _ _ (unvalued z h 2 (λ v. fs) fs)
          (lessen z h 2 (λ q. gs) (λ q. fs) fs gs _ _ (λ q c g y. y.1.1.1) (λ c g y. y.1.1.1)
          (more_leaves z h 0 2 (λ q. gs) gs _ _ (omega arith)
          (stored_at z h (t + 2) at room (omega arith) (t + 2) gs home u (operand.Temp (t + 1)) has (omega arith)
          ((omega arith, inl (omega arith)), (off_behind h wl wh (t + 2) (t + 2 + 1) b cw.starts (omega arith) cw.within, ((above, inl (omega arith)), outside_less h low (t + 3) (t + 2) (t + 2 + 1) fs (omega arith) (omega arith) out)))
          (λ c g y. y.0))))));
    }

pub attribute_carried : (h : Homes) (low t xl xh wl wh at line : ℕ) (caught : Option ℕ) (o : Op) (x w : syntax.Expression) (name : List ℕ) (xb wb : tree.Block) (a b : Operand) → behind h ≤ low → Within low t xl xh → Within low t wl wh → IsOff h wl wh a → CarriesExpression h xl xh x xb a → CarriesExpression h wl wh w wb b → CarriesStatement h low (t + 3) caught (syntax.Augment line o (syntax.ToAttribute at x name) w) (attribute_augmented at line t o xb a name wb b)
attribute_carried h low t xl xh wl wh at line caught o x w name xb wb a b st wx ww kept cx cw =
    let l₁ : low ≤ wl = ww.0 in
    let l₂ : wh ≤ t = ww.1 in
    let l₃ : wl ≤ wh = cw.grows in
    let l₄ : xh ≤ t = wx.1 in
    let above : behind h ≤ t = omega arith in
    record {
      starts = st;
      grows = omega arith;
      carries = λ z fs handled out hd.
          let Q : AllEnds = EndsAs z h 2 (λ v. fs) fs in
          let off : (d : ℕ) → t ≤ d → d < t + 3 → Off d fs = (λ d p q. outside_off h low (t + 3) d fs (omega arith) q out) in
          let part : Value → Facts = λ v. Holds a v ∷ fs in
          let off_part : (d : ℕ) (v : Value) → t ≤ d → d < t + 3 → Off d (part v) = (λ d v p q. within_off xl xh d a v fs cx.within (omega arith) (off d p q)) in
          value_then z h fs Q (passing z h 2 fs) fs xl xh x xb a _ _ (λ c g y. y) cx (outside_less h low (t + 3) xl xh fs wx.0 (omega arith) out)
          (λ s. do_then z h fs Q (passing z h 2 fs) (part s) at t op.Attr (s ∷ python.text name ∷ []) (argument.Value a ∷ argument.Name name ∷ []) _ _ (λ c g y. y.1) above (off_part t s (omega arith) (omega arith))
          (λ c g y. two_values g (argument.Value a) (argument.Name name) s (python.text name) y.0 refl)
          (λ v. operated_then z h fs Q (passing z h 2 fs) (Holds (operand.Temp t) v ∷ part s) wl wh line t o v w wb b _ _ (λ c g y. y.1.1) cw l₂
          ((above, inr l₂), (kept, outside_less h low (t + 3) wl wh fs l₁ (omega arith) out))
          (λ e. let e₁ : t ≡ t + 1 = e in omega arith, off_part (t + 1) s (omega arith) (omega arith))
          (λ c g y. y.0)
          (λ r u. do_last z h 2 fs (Holds (operand.Temp (t + 1)) u ∷ Holds b r ∷ Holds (operand.Temp t) v ∷ part s) at (t + 2) op.SetAttr (s ∷ python.text name ∷ u ∷ []) (argument.Value a ∷ argument.Name name ∷ of_temp (t + 1) ∷ []) (λ c g y. y.1.1.1.1) (omega arith)
          (λ e. let e₁ : t + 1 ≡ t + 2 = e in omega arith, within_off wl wh (t + 2) b r (Holds (operand.Temp t) v ∷ part s) cw.within (omega arith) (λ e. let e₁ : t ≡ t + 2 = e in omega arith, off_part (t + 2) s (omega arith) (omega arith)))
          (λ c g y. three_values g (argument.Value a) (argument.Name name) (of_temp (t + 1)) s (python.text name) u y.1.1.1.0 refl y.0))));
    }

pub index_carried : (h : Homes) (low t xl xh yl yh wl wh at line : ℕ) (caught : Option ℕ) (o : Op) (x y w : syntax.Expression) (xb yb wb : tree.Block) (a i b : Operand) → behind h ≤ low → Within low t xl xh → Within low t yl yh → Within low t wl wh → IsOff h yl yh a → IsOff h wl wh a → IsOff h wl wh i → CarriesExpression h xl xh x xb a → CarriesExpression h yl yh y yb i → CarriesExpression h wl wh w wb b → CarriesStatement h low (t + 3) caught (syntax.Augment line o (syntax.ToIndex at x y) w) (index_augmented at line t o xb a yb i wb b)
index_carried h low t xl xh yl yh wl wh at line caught o x y w xb yb wb a i b st wx wy ww kept₁ kept₂ kept₃ cx cy cw =
    let l₁ : low ≤ wl = ww.0 in
    let l₂ : wh ≤ t = ww.1 in
    let l₃ : wl ≤ wh = cw.grows in
    let l₄ : xh ≤ t = wx.1 in
    let l₅ : yh ≤ t = wy.1 in
    let above : behind h ≤ t = omega arith in
    record {
      starts = st;
      grows = omega arith;
      carries = λ z fs handled out hd.
          let Q : AllEnds = EndsAs z h 2 (λ v. fs) fs in
          let off : (d : ℕ) → t ≤ d → d < t + 3 → Off d fs = (λ d p q. outside_off h low (t + 3) d fs (omega arith) q out) in
          let parts : Value → Value → Facts = λ v k. Holds i k ∷ Holds a v ∷ fs in
          let off_parts : (d : ℕ) (v k : Value) → t ≤ d → d < t + 3 → Off d (parts v k) = (λ d v k p q. parts_off xl xh yl yh d a i v k fs cx.within cy.within (omega arith) (omega arith) (off d p q)) in
          index_then z h fs Q low t xl xh yl yh x y xb yb a i _ _ (passing z h 2 fs) wx wy kept₁ cx cy (outside_less h low (t + 3) low t fs (omega arith) (omega arith) out)
          (λ s k. do_then z h fs Q (passing z h 2 fs) (parts s k) at t op.Index (s ∷ k ∷ []) (argument.Value a ∷ argument.Value i ∷ []) _ _ (λ c g y. y.1.1) above (off_parts t s k (omega arith) (omega arith))
          (λ c g y. two_values g (argument.Value a) (argument.Value i) s k y.1.0 y.0)
          (λ v. operated_then z h fs Q (passing z h 2 fs) (Holds (operand.Temp t) v ∷ parts s k) wl wh line t o v w wb b _ _ (λ c g y. y.1.1.1) cw l₂
          ((above, inr l₂), (kept₃, (kept₂, outside_less h low (t + 3) wl wh fs l₁ (omega arith) out)))
          (λ e. let e₁ : t ≡ t + 1 = e in omega arith, off_parts (t + 1) s k (omega arith) (omega arith))
          (λ c g y. y.0)
          (λ r u. do_last z h 2 fs (Holds (operand.Temp (t + 1)) u ∷ Holds b r ∷ Holds (operand.Temp t) v ∷ parts s k) at (t + 2) op.SetIndex (s ∷ k ∷ u ∷ []) (argument.Value a ∷ argument.Value i ∷ of_temp (t + 1) ∷ []) (λ c g y. y.1.1.1.1.1) (omega arith)
          (λ e. let e₁ : t + 1 ≡ t + 2 = e in omega arith, within_off wl wh (t + 2) b r (Holds (operand.Temp t) v ∷ parts s k) cw.within (omega arith) (λ e. let e₁ : t ≡ t + 2 = e in omega arith, off_parts (t + 2) s k (omega arith) (omega arith)))
          (λ c g y. three_values g (argument.Value a) (argument.Value i) (of_temp (t + 1)) s k u y.1.1.1.1.0 y.1.1.1.0 y.0))));
    }
