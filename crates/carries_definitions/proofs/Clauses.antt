-- The clauses of comprehensions, where their parts are carried.
use Rattle.std.proofs.Common.{◌⊎◌, ℕ, ◌+◌, ◌<◌, ◌≤◌, [], ◌∷◌, Some, ap, ◌∙◌, arith}
use Rattle.op_forms.specs.declared.op.Op.TheVariants as op
use Rattle.nu_calls.specs.Calls.{yields}
use Rattle.code_forms.specs.declared.operand.Argument.TheVariants as argument
use Rattle.code_forms.specs.declared.operand.Operand.{Operand}
use Rattle.code_forms.specs.declared.operand.Operand.TheVariants as operand
use Rattle.node_tree.specs.Blocks as tree
use Rattle.node_tree.specs.Nodes as nodes
use Rattle.py_meaning.specs.Syntax as syntax
use Rattle.carries_base.specs.Frames.{Homes, behind, Holds, Facts}
use Rattle.carries_base.specs.Carries.{source, target, EndsAs, CarriesExpression, CarriesTarget}
use Rattle.carries_base.specs.Laws.{Within}
use Rattle.carries_base.proofs.Facts.{outside_off, outside_less, within_below}
use Rattle.carries_base.proofs.Carry.{AllEnds}
use Rattle.carries_base.proofs.Sequence.{strengthen, lessen, unvalued, one_by, gives_carried, uses_by}
use Rattle.carries_base.proofs.Small.{within_off}
use Rattle.carries_base.proofs.Control.{branch_by}
use Rattle.carries_base.proofs.Operations.{storing_by, yields_by}
use Rattle.carries_control.specs.Loops.{for_block}
use Rattle.carries_control.proofs.Steps.{passing, value_then, do_then, do_last}
use Rattle.carries_definitions.specs.Collected.{CarriesTurns, push_block, entry_block, emit_block, filter_block}
use Rattle.carries_definitions.proofs.Ranges.{ranged_carried}

pub push_carried : (h : Homes) (low high line : ℕ) (into : Operand) (x : syntax.Expression) (b : tree.Block) (o : Operand) → CarriesExpression h low high x b o → CarriesTurns h low (high + 1) line into (syntax.Push x) (push_block line high into b o)
push_carried h low high line into x b o cx =
    let st = cx.starts in
    let le = cx.grows in
    record {
      starts = st;
      grows = omega arith;
      carries = λ z fs v out knows.
          value_then z h fs (EndsAs z h 0 (λ w. fs) fs) (passing z h 0 fs) fs low high x b o _ _ (λ c g y. y) cx (outside_less h low (high + 1) low high fs (omega arith) (omega arith) out)
          (λ w. do_last z h 0 fs (Holds o w ∷ fs) line high op.Push (v ∷ w ∷ []) (argument.Value into ∷ argument.Value o ∷ []) (λ c g y. y.1) (omega arith) (within_off low high high o w fs cx.within (omega arith) (outside_off h low (high + 1) high fs le (omega arith) out))
          (λ c g y. ap (λ u. nodes.both u (nodes.both (nodes.operand_value g o) (Some []))) (knows c g y.1) ∙ ap (λ u. nodes.both (Some v) (nodes.both u (Some []))) y.0));
    }

pub put_carried : (h : Homes) (low mid high line : ℕ) (into : Operand) (key x : syntax.Expression) (kb b : tree.Block) (k o : Operand) → CarriesExpression h low mid key kb k → CarriesExpression h mid high x b o → CarriesTurns h low (high + 1) line into (syntax.Put key x) (entry_block line high into kb k b o)
put_carried h low mid high line into key x kb b k o ck cx =
    let st = ck.starts in
    let le₁ = ck.grows in
    let le₂ = cx.grows in
    record {
      starts = st;
      grows = omega arith;
      carries = λ z fs v out knows.
          let Q : AllEnds = EndsAs z h 0 (λ w. fs) fs in
          value_then z h fs Q (passing z h 0 fs) fs low mid key kb k _ _ (λ c g y. y) ck (outside_less h low (high + 1) low mid fs (omega arith) (omega arith) out)
          (λ u. let f₁ : Facts = Holds k u ∷ fs in
          value_then z h fs Q (passing z h 0 fs) f₁ mid high x b o _ _ (λ c g y. y.1) cx (within_below h low mid high k st ck.within, outside_less h low (high + 1) mid high fs le₁ (omega arith) out)
          (λ w. do_last z h 0 fs (Holds o w ∷ f₁) line high op.Put (v ∷ u ∷ w ∷ []) (argument.Value into ∷ argument.Value k ∷ argument.Value o ∷ []) (λ c g y. y.1.1) (omega arith)
          (within_off mid high high o w f₁ cx.within (omega arith) (within_off low mid high k u fs ck.within (omega arith) (outside_off h low (high + 1) high fs (omega arith) (omega arith) out)))
          (λ c g y.
          ap (λ q. nodes.both q (nodes.both (nodes.operand_value g k) (nodes.both (nodes.operand_value g o) (Some [])))) (knows c g y.1.1)
          ∙ ap (λ q. nodes.both (Some v) (nodes.both q (nodes.both (nodes.operand_value g o) (Some [])))) y.1.0
          ∙ ap (λ q. nodes.both (Some v) (nodes.both (Some u) (nodes.both q (Some [])))) y.0)));
    }

pub emit_carried : (h : Homes) (low high line : ℕ) (into : Operand) (x : syntax.Expression) (b : tree.Block) (o : Operand) → CarriesExpression h low high x b o → CarriesTurns h low (high + 1) line into (syntax.Emit x) (emit_block line high b o)
emit_carried h low high line into x b o cx =
    let st = cx.starts in
    let le = cx.grows in
    let above : behind h ≤ high = omega arith in
    record {
      starts = st;
      grows = omega arith;
      carries = λ z fs v out knows.
          let Q : AllEnds = EndsAs z h 0 (λ w. fs) fs in
          value_then z h fs Q (passing z h 0 fs) fs low high x b o _ _ (λ c g y. y) cx (outside_less h low (high + 1) low high fs (omega arith) (omega arith) out)
          (λ w. let gs : Facts = Holds o w ∷ fs in
          one_by z h 0 _ Q _ _ (unvalued z h 0 (λ u. fs) fs)
          (uses_by z h 0 _ Q o w (yields (source z) line) (λ u. nodes.storing high (yields (target z) line u)) (λ tabs s t y. y.frames.facts.0) (λ tabs s t y. tt)
          (λ used. lessen z h 0 (λ u. Holds (operand.Temp high) u ∷ gs) (λ u. fs) fs gs _ _ (λ u c g y. y.1.1) (λ c g y. y.1)
          (storing_by z h 0 _ gs high _ _ above (within_off low high high o w fs cx.within (omega arith) (outside_off h low (high + 1) high fs le (omega arith) out))
          (yields_by z h gs line w)))));
    }

pub filter_carried : (h : Homes) (low high tl th bl bh line : ℕ) (into : Operand) (test : syntax.Expression) (inner : syntax.Turns) (tb b : tree.Block) (o : Operand) → behind h ≤ low → Within low high tl th → Within low high bl bh → CarriesExpression h tl th test tb o → CarriesTurns h bl bh line into inner b → CarriesTurns h low (high + 1) line into (syntax.Filter test inner) (filter_block line high tb o b)
filter_carried h low t tl th bl bh line into test inner tb b o st wt wb ct cb =
    let g = ct.grows in
    let w₁ = wt.0 in
    let w₂ = wt.1 in
    let w₃ = wb.1 in
    record {
      starts = st;
      grows = omega arith;
      carries = λ z fs v out knows.
          let Q : AllEnds = EndsAs z h 0 (λ w. fs) fs in
          value_then z h fs Q (passing z h 0 fs) fs tl th test tb o _ _ (λ c g y. y) ct (outside_less h low (t + 1) tl th fs wt.0 (omega arith) out)
          (λ w. do_then z h fs Q (passing z h 0 fs) (Holds o w ∷ fs) line t op.Truth (w ∷ []) (argument.Value o ∷ []) _ _ (λ c g y. y.1) (omega arith) (within_off tl th t o w fs ct.within wt.1 (outside_off h low (t + 1) t fs (omega arith) (omega arith) out)) (λ c g y. ap (λ u. nodes.both u (Some [])) y.0)
          (λ q. let gs : Facts = Holds (operand.Temp t) q ∷ Holds o w ∷ fs in
          one_by z h 0 _ Q _ _ (unvalued z h 0 (λ u. fs) fs)
          (branch_by z h _ Q (operand.Temp t) q _ _ b tree.Stop (λ tabs s u y. y.frames.facts.0) (λ tabs s u y. tt)
          (strengthen z h 0 fs gs Q _ _ (λ c g y. y.1.1) (cb.carries z fs v (outside_less h low (t + 1) bl bh fs wb.0 (omega arith) out) knows))
          (strengthen z h 0 fs gs Q _ _ (λ c g y. y.1.1) (gives_carried z h 0 (λ u. fs) fs _ (λ c g y. y))))));
    }

pub ranging_carried : (h : Homes) (low high xl xh il ih bl bh item line : ℕ) (into : Operand) (target : syntax.Target) (over : syntax.Expression) (inner : syntax.Turns) (xb bind bb : tree.Block) (o : Operand) → behind h ≤ low → Within low high xl xh → Within low high il ih → Within low high bl bh → low ≤ item → item < high → ((item < il) ⊎ (ih ≤ item)) → CarriesExpression h xl xh over xb o → CarriesTarget h il ih (operand.Temp item) target bind → CarriesTurns h bl bh line into inner bb → CarriesTurns h low (high + 5) line into (syntax.Ranging target over inner) (for_block line high item xb o bind bb tree.Stop)
ranging_carried h low t xl xh il ih bl bh item line into goal over inner xb bind bb o st wx wi wb l₁ l₂ sides cx ci cb =
    let g = cx.grows in
    let w₁ = wx.0 in
    let w₂ = wx.1 in
    record {
      starts = st;
      grows = omega arith;
      carries = λ z fs v out knows.
          let Q : AllEnds = EndsAs z h 0 (λ w. fs) fs in
          value_then z h fs Q (passing z h 0 fs) fs xl xh over xb o _ _ (λ c g y. y) cx (outside_less h low (t + 5) xl xh fs wx.0 (omega arith) out)
          (λ w. do_then z h fs Q (passing z h 0 fs) (Holds o w ∷ fs) line t op.Iter (w ∷ []) (argument.Value o ∷ []) _ _ (λ c g y. y.1) (omega arith) (within_off xl xh t o w fs cx.within wx.1 (outside_off h low (t + 5) t fs (omega arith) (omega arith) out)) (λ c g y. ap (λ u. nodes.both u (Some [])) y.0)
          (λ iterator. strengthen z h 0 (Holds (operand.Temp t) iterator ∷ fs) _ Q _ _ (λ c g y. (y.0, y.1.1))
          (ranged_carried z h fs line t item iterator (omega arith) l₂ low il ih bl bh v into goal inner bind bb st wi wb l₁ sides ci cb knows out)));
    }
