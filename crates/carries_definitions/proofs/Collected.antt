-- Comprehensions where they stand, and the bodies of their codes.
use Rattle.std.proofs.Common.{◌≡◌, ◌⊎◌, inl, ℕ, ◌+◌, ◌<◌, ◌≤◌, List, [], ◌∷◌, Some, None, refl, sym, ap, ◌∙◌, subst, arith}
use Rattle.nu_value.specs.declared.value.Value.{Value}
use Rattle.nu_value.specs.declared.value.Value.TheVariants as value
use Rattle.op_forms.specs.declared.constant.Const.TheVariants as const
use Rattle.op_forms.specs.declared.op.Op.{Op}
use Rattle.op_forms.specs.declared.op.Op.TheVariants as op
use Rattle.code_forms.specs.declared.operand.Argument.TheVariants as argument
use Rattle.code_forms.specs.declared.operand.Operand.{Operand}
use Rattle.code_forms.specs.declared.operand.Operand.TheVariants as operand
use Rattle.node_tree.specs.Blocks.{alone, of_temp}
use Rattle.node_tree.specs.Blocks as tree
use Rattle.node_tree.specs.Nodes as nodes
use Rattle.py_meaning.specs.Syntax as syntax
use Rattle.py_meaning.specs.Frames as python
use Rattle.py_meaning.specs.Bodies.{ranges}
use Rattle.carries_base.specs.Frames.{Homes, HaveRoom, local_at, behind, Holds, Facts, IsOff, Outside}
use Rattle.carries_base.specs.Carries.{Setting, source, target, Correspond, EndsAs, BodyEnds, CarriedTo, Knows, CarriesExpression, CarriesTarget}
use Rattle.carries_base.specs.Laws.{Within}
use Rattle.carries_base.proofs.Facts.{Off, outside_off, outside_less, within_below, fresh, refit}
use Rattle.carries_base.proofs.Carry.{AllEnds, Midway, by_map, right_by}
use Rattle.carries_base.proofs.Sequence.{passes, seq_to, unvalued, one_by, reads_by}
use Rattle.carries_base.proofs.Codes.{body_ends}
use Rattle.carries_base.proofs.Control.{return_by}
use Rattle.carries_names.specs.Begun.{CarriesBody}
use Rattle.carries_names.specs.Functions.{HasCells}
use Rattle.carries_names.proofs.Functions.{Extends}
use Rattle.carries_control.proofs.Steps.{passed, passing, value_then, do_then}
use Rattle.carries_definitions.specs.Collected.{comprehension_block, CarriesTurns, over_block, gathers_block}
use Rattle.carries_definitions.proofs.Classes.{Leaving, do_value, bare_then}
use Rattle.carries_definitions.proofs.Ranges.{ranged_carried}

pub comprehension_carried : (h : Homes) (low high line code : ℕ) (x : syntax.Expression) (cells : List syntax.CellPlace) (xb : tree.Block) (o : Operand) → HaveRoom h → HasCells h cells → CarriesExpression h low high x xb o → CarriesExpression h low (high + 5) (syntax.Comprehension line code x cells) (comprehension_block h high line code xb o cells) (operand.Temp (high + 4))
comprehension_carried h low t line code x cells xb o room has cx =
    let st = cx.starts in
    let le = cx.grows in
    record {
      starts = st;
      grows = omega arith;
      within = (omega arith, omega arith);
      carries = λ z fs out.
          let Q : AllEnds = Leaving z h 0 fs (t + 4) in
          let pass = passes z h 0 (λ v. fs) (λ v. Holds (operand.Temp (t + 4)) v ∷ fs) fs in
          value_then z h fs Q pass fs low t x xb o _ _ (λ c g y. y) cx (outside_less h low (t + 5) low t fs (omega arith) (omega arith) out)
          (λ v. let f₁ : Facts = Holds o v ∷ fs in
          let out₁ : Outside h t (t + 5) f₁ = (within_below h low t (t + 5) o st cx.within, outside_less h low (t + 5) t (t + 5) fs le (omega arith) out) in
          do_then z h fs Q pass f₁ line t op.Iter (v ∷ []) (argument.Value o ∷ []) _ _ (λ c g y. y.1) (omega arith) (outside_off h t (t + 5) t f₁ (omega arith) (omega arith) out₁) (λ c g y. ap (λ u. nodes.both u (Some [])) y.0)
          (λ iterator. let f₂ : Facts = Holds (operand.Temp t) iterator ∷ f₁ in
          bare_then z h fs Q pass f₂ (t + 1) line code cells _ (alone (tree.Do (t + 4) line op.Call (of_temp (t + 1 + 2) ∷ of_temp t ∷ []))) (λ c g y. y.1.1) room has (omega arith) ((omega arith, inl (omega arith)), outside_less h t (t + 5) (t + 1) (t + 1 + 3) f₁ (omega arith) (omega arith) out₁)
          (λ f. do_value z h 0 fs (t + 4) (Holds (operand.Temp (t + 1 + 2)) f ∷ f₂) line op.Call (f ∷ iterator ∷ []) (of_temp (t + 1 + 2) ∷ of_temp t ∷ []) (λ c g y. y.1.1.1) (omega arith)
          (λ e. let e₁ : t + 1 + 2 ≡ t + 4 = e in omega arith, (λ e. let e₁ : t ≡ t + 4 = e in omega arith, outside_off h t (t + 5) (t + 4) f₁ (omega arith) (omega arith) out₁))
          (λ c g y. ap (λ u. nodes.both u (nodes.both (g.temps t) (Some []))) y.0 ∙ ap (λ u. nodes.both (Some f) (nodes.both u (Some []))) y.1.0))));
    }

module _ (z : Setting) (h : Homes) where
  -- a temporary first gets what another one holds
  copies_first : (fs gs : Facts) (Q : AllEnds) (to from : ℕ) (v : Value) (r : python.R) (b : nodes.R) → Extends gs fs → behind h ≤ to → Off to fs → Knows gs (operand.Temp from) v → CarriedTo z h Q (Holds (operand.Temp to) v ∷ fs) r b → CarriedTo z h Q gs r (nodes.followed (nodes.copy_row to from) b)
  copies_first fs gs Q to from v r b more above off known x =
      let ks : Facts = Holds (operand.Temp to) v ∷ fs in
      right_by z h _ (λ w tabs. Correspond z h tabs ks) Q r _ (λ w. b)
      (λ tabs s t y. subst (λ u. ((nodes.copied t to u).out ≡ []) × Midway z h (λ w tabs. Correspond z h tabs ks) tabs (nodes.copied t to u).end s (nodes.copied t to u).state) (sym (known s.frame.carried t.frame y.frames.facts))
      (refl, fresh z h tabs fs to v v s t refl above off (refit z h tabs gs fs s t (more s.frame.carried t.frame) y)))
      (λ w. x)

  module _ (low t il ih bl bh item line : ℕ) (goal : syntax.Target) (inner : syntax.Turns) (bind bb : tree.Block) (o : Operand) (inside : 0 < h.filled) (st : behind h ≤ low) (wi : Within low t il ih) (wb : Within low t bl bh) (l₁ : low ≤ item) (l₂ : item < t) (sides : (item < il) ⊎ (ih ≤ item)) (ci : CarriesTarget h il ih (operand.Temp item) goal bind) (cb : CarriesTurns h bl bh line o inner bb) where
    -- the first loop
    over_carried : (fs : Facts) (into : Value) → Knows fs o into → Outside h low (t + 5) fs → CarriedTo z h (EndsAs z h 0 (λ v. fs) fs) fs (ranges (source z) line into goal inner) (nodes.block_row (target z) (over_block line t item (local_at h 0) bind bb))
    over_carried fs into known out =
        let Q : AllEnds = EndsAs z h 0 (λ v. fs) fs in
        let home : Value → Facts = λ v. Holds (operand.Temp (local_at h 0)) v ∷ fs in
        reads_by z h 0 _ (λ v tabs. Correspond z h tabs (home v)) Q (λ f. python.at f.locals 0) _ _
        (λ tabs s u x. refit z h tabs fs (home (python.at s.frame.locals 0)) s u (λ y. (x.frames.locals 0 inside, y)) x)
        (λ iterator. copies_first fs (home iterator) Q t (local_at h 0) iterator _ _ (λ c g y. y.1) (omega arith) (outside_off h low (t + 5) t fs (omega arith) (omega arith) out) (λ c g y. y.0)
        (ranged_carried z h fs line t item iterator (omega arith) l₂ low il ih bl bh into o goal inner bind bb st wi wb l₁ sides ci cb known out))

pub generates_carried : (z : Setting) (h : Homes) (low high il ih bl bh item line : ℕ) (target : syntax.Target) (inner : syntax.Turns) (bind bb : tree.Block) → 0 < h.filled → behind h ≤ low → Within low high il ih → Within low high bl bh → low ≤ item → item < high → ((item < il) ⊎ (ih ≤ item)) → CarriesTarget h il ih (operand.Temp item) target bind → CarriesTurns h bl bh line (operand.Const const.None) inner bb → CarriesBody z h (syntax.Collect line None target inner) (over_block line high item (local_at h 0) bind bb)
generates_carried z h low t il ih bl bh item line goal inner bind bb inside st wi wb l₁ l₂ sides ci cb =
    by_map z h _ _ (EndsAs z h 0 (λ v. []) []) (BodyEnds z) _ _ (λ tabs s u y. y) (body_ends z h 0 (λ v. []) [])
    (over_carried z h low t il ih bl bh item line goal inner bind bb (operand.Const const.None) inside st wi wb l₁ l₂ sides ci cb [] value.None (λ c g y. refl) tt)

pub gathers_carried : (z : Setting) (h : Homes) (low high il ih bl bh item into line : ℕ) (o : Op) (target : syntax.Target) (inner : syntax.Turns) (bind bb : tree.Block) → 0 < h.filled → behind h ≤ low → Within low high il ih → Within low high bl bh → low ≤ item → item < high → ((item < il) ⊎ (ih ≤ item)) → IsOff h low (high + 5) (operand.Temp into) → CarriesTarget h il ih (operand.Temp item) target bind → CarriesTurns h bl bh line (operand.Temp into) inner bb → CarriesBody z h (syntax.Collect line (Some o) target inner) (gathers_block line into o (over_block line high item (local_at h 0) bind bb))
gathers_carried z h low t il ih bl bh item into line o goal inner bind bb inside st wi wb l₁ l₂ sides off ci cb =
    let Q : AllEnds = EndsAs z h 0 (λ v. []) [] in
    by_map z h _ _ Q (BodyEnds z) _ _ (λ tabs s u y. y) (body_ends z h 0 (λ v. []) [])
    (do_then z h [] Q (passing z h 0 []) [] line into o [] [] _ _ (λ c g y. y) off.0 tt (λ c g y. refl)
    (λ made. let fs : Facts = Holds (operand.Temp into) made ∷ [] in
    seq_to z h 0 (λ v. fs) fs Q _ _ (over_block line t item (local_at h 0) bind bb) (alone (tree.Return (operand.Temp into))) (passed z h [] Q (passing z h 0 []) (λ v. fs) fs (λ c g y. tt))
    (over_carried z h low t il ih bl bh item line goal inner bind bb (operand.Temp into) inside st wi wb l₁ l₂ sides ci cb fs made (λ c g y. y.0) (off, tt))
    (λ v. one_by z h 0 _ Q _ _ (unvalued z h 0 (λ w. []) [])
    (return_by z h _ Q (operand.Temp into) made (λ tabs s u y. y.frames.facts.0) (λ tabs s u y. (refl, refit z h tabs fs [] s u (λ q. tt) y))))))
