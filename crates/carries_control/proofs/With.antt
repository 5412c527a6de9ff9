-- `with`, where its parts are carried.
use Rattle.std.proofs.Common.{◌≡◌, ◌⊎◌, inr, ℕ, ◌+◌, ◌<◌, ◌≤◌, Bool, true, false, [], ◌∷◌, Option, Some, codes, refl, ap, ◌∙◌, arith}
use Rattle.nu_value.specs.declared.value.Value.{Value}
use Rattle.nu_value.specs.declared.value.Value.TheVariants as value
use Rattle.op_forms.specs.declared.op.Op.TheVariants as op
use Rattle.nu_rows.specs.Rows.{End, Next, Leave, Raised, Return, Stopped, Undefined, Then}
use Rattle.nu_rows.specs.Words.{then_value, ends_with, choose}
use Rattle.nu_calls.specs.Calls.{operate}
use Rattle.code_forms.specs.declared.operand.Argument.TheVariants as argument
use Rattle.code_forms.specs.declared.operand.Operand.{Operand}
use Rattle.code_forms.specs.declared.operand.Operand.TheVariants as operand
use Rattle.node_tree.specs.Blocks.{alone, of_temp}
use Rattle.node_tree.specs.Blocks as tree
use Rattle.node_tree.specs.Nodes as nodes
use Rattle.py_meaning.specs.Syntax as syntax
use Rattle.py_meaning.specs.Frames as python
use Rattle.py_meaning.specs.Statements.{assign_all, leaves_by, leaving}
use Rattle.carries_base.specs.Frames.{Homes, behind, Holds, Facts, Fits, Outside}
use Rattle.carries_base.specs.Carries.{Setting, source, target, EndsAs, CarriedTo, CarriesExpression, CarriesGiven, CarriesStatement, CarriesBlock}
use Rattle.carries_base.specs.Laws.{Within}
use Rattle.carries_base.proofs.Facts.{Off, outside_off, outside_less, refit}
use Rattle.carries_base.proofs.Carry.{AllEnds, by_map}
use Rattle.carries_base.proofs.Sequence.{ends_map, strengthen, passes_to, seq_to, unvalued, one_by, gives_carried}
use Rattle.carries_base.proofs.Small.{within_off}
use Rattle.carries_base.proofs.Control.{branch_by}
use Rattle.carries_names.proofs.Functions.{Extends}
use Rattle.carries_control.specs.Finish.{guarded, none, exits_block, others_block, leaving_block, with_block}
use Rattle.carries_control.proofs.Steps.{passing, value_then, do_then}
use Rattle.carries_control.proofs.Again.{again_by}
use Rattle.carries_control.proofs.Loops.{handles_more}
use Rattle.carries_control.proofs.Kept.{pend, MayPend, kept_by, kept_then}
use Rattle.carries_control.proofs.Finish.{MayGo, if_by, onward_by, pend_less}

-- `fs` is known outside, and `leave` is in its temporary
module _ (z : Setting) (h : Homes) (fs : Facts) (line t u : ℕ) (leave : Value) (above : behind h ≤ t) (le : t + 7 ≤ u) (off : (d : ℕ) → t ≤ d → d < u + 4 → Off d fs) where
  abbrev Q : AllEnds
  Q = EndsAs z h 2 (λ v. fs) fs

  abbrev Inside : Facts
  Inside = Holds (operand.Temp (t + 6)) leave ∷ fs

  -- no temporary from u on is spoken of
  pend_off : (d : ℕ) (e : End) → u ≤ d → d < u + 4 → Off d (pend t Inside e)
  pend_off d (Next v) a b = (λ q. let e₁ : t + 2 ≡ d = q in omega arith, (λ q. let e₁ : t + 1 ≡ d = q in omega arith, (λ q. let e₁ : t + 6 ≡ d = q in omega arith, off d (omega arith) b)))
  pend_off d (Raised v) a b = (λ q. let e₁ : t + 2 ≡ d = q in omega arith, (λ q. let e₁ : t + 1 ≡ d = q in omega arith, (λ q. let e₁ : t ≡ d = q in omega arith, (λ q. let e₁ : t + 6 ≡ d = q in omega arith, off d (omega arith) b))))
  pend_off d (Return v) a b = (λ q. let e₁ : t + 3 ≡ d = q in omega arith, (λ q. let e₁ : t + 2 ≡ d = q in omega arith, (λ q. let e₁ : t + 1 ≡ d = q in omega arith, (λ q. let e₁ : t ≡ d = q in omega arith, (λ q. let e₁ : t + 6 ≡ d = q in omega arith, off d (omega arith) b)))))
  pend_off d (Leave v) a b = (λ q. let e₁ : t + 4 ≡ d = q in omega arith, (λ q. let e₁ : t + 3 ≡ d = q in omega arith, (λ q. let e₁ : t + 2 ≡ d = q in omega arith, (λ q. let e₁ : t + 1 ≡ d = q in omega arith, (λ q. let e₁ : t + 6 ≡ d = q in omega arith, off d (omega arith) b)))))
  pend_off d (Stopped v) a b = (λ q. let e₁ : t + 6 ≡ d = q in omega arith, off d (omega arith) b)
  pend_off d Undefined a b = (λ q. let e₁ : t + 6 ≡ d = q in omega arith, off d (omega arith) b)

  less : (e : End) → Extends (pend t Inside e) fs
  less e c g y = (pend_less t Inside e c g y).1

  -- an exception
  exits_by : (x : ℕ) → CarriedTo z h Q (pend t Inside (Raised x)) (leaves_by (source z) line leave x) (nodes.block_row (target z) (exits_block line t (t + 6) u))
  exits_by x =
      let e : End = Raised x in
      let f₀ : Facts = pend t Inside e in
      do_then z h fs Q (passing z h 2 fs) f₀ line u op.ClassOf (value.Obj x ∷ []) (of_temp t ∷ []) _ _ (less e) (omega arith) (pend_off u e (omega arith) (omega arith)) (λ c g y. ap (λ q. nodes.both q (Some [])) y.1.1.0)
      (λ class. let f₁ : Facts = Holds (operand.Temp u) class ∷ f₀ in
      do_then z h fs Q (passing z h 2 fs) f₁ line (u + 1) op.Trace (value.Obj x ∷ []) (of_temp t ∷ []) _ _ (λ c g y. less e c g y.1) (omega arith) (λ q. let e₁ : u ≡ u + 1 = q in omega arith, pend_off (u + 1) e (omega arith) (omega arith)) (λ c g y. ap (λ q. nodes.both q (Some [])) y.1.1.1.0)
      (λ trace. let f₂ : Facts = Holds (operand.Temp (u + 1)) trace ∷ f₁ in
      do_then z h fs Q (passing z h 2 fs) f₂ line (u + 2) op.Call (leave ∷ class ∷ value.Obj x ∷ trace ∷ []) (of_temp (t + 6) ∷ of_temp u ∷ of_temp t ∷ of_temp (u + 1) ∷ []) _ _ (λ c g y. less e c g y.1.1) (omega arith)
      (λ q. let e₁ : u + 1 ≡ u + 2 = q in omega arith, (λ q. let e₁ : u ≡ u + 2 = q in omega arith, pend_off (u + 2) e (omega arith) (omega arith)))
      (λ c g y.
      ap (λ q. nodes.both q (nodes.both (g.temps u) (nodes.both (g.temps t) (nodes.both (g.temps (u + 1)) (Some []))))) y.1.1.1.1.1.0
      ∙ ap (λ q. nodes.both (Some leave) (nodes.both q (nodes.both (g.temps t) (nodes.both (g.temps (u + 1)) (Some []))))) y.1.0
      ∙ ap (λ q. nodes.both (Some leave) (nodes.both (Some class) (nodes.both q (nodes.both (g.temps (u + 1)) (Some []))))) y.1.1.1.1.0
      ∙ ap (λ q. nodes.both (Some leave) (nodes.both (Some class) (nodes.both (Some (value.Obj x)) (nodes.both q (Some []))))) y.0)
      (λ v. let f₃ : Facts = Holds (operand.Temp (u + 2)) v ∷ f₂ in
      do_then z h fs Q (passing z h 2 fs) f₃ line (u + 3) op.Truth (v ∷ []) (of_temp (u + 2) ∷ []) _ _ (λ c g y. less e c g y.1.1.1) (omega arith)
      (λ q. let e₁ : u + 2 ≡ u + 3 = q in omega arith, (λ q. let e₁ : u + 1 ≡ u + 3 = q in omega arith, (λ q. let e₁ : u ≡ u + 3 = q in omega arith, pend_off (u + 3) e (omega arith) (omega arith))))
      (λ c g y. ap (λ q. nodes.both q (Some [])) y.0)
      (λ b. let f₄ : Facts = Holds (operand.Temp (u + 3)) b ∷ f₃ in
      let known : Extends f₄ fs = (λ c g y. less e c g y.1.1.1.1) in
      one_by z h 2 _ Q _ _ (unvalued z h 2 (λ v. fs) fs)
      (branch_by z h _ Q (operand.Temp (u + 3)) b _ _ tree.Stop (alone (tree.Raise (operand.Temp t))) (λ tabs s w y. y.frames.facts.0) (λ tabs s w y. tt)
      (strengthen z h 2 fs f₄ Q _ _ known (gives_carried z h 2 (λ v. fs) fs _ (λ c g y. y)))
      (one_by z h 2 _ Q _ _ (unvalued z h 2 (λ v. fs) fs) (again_by z h fs Q (passing z h 2 fs) f₄ t x known (λ c g y. y.1.1.1.1.1.1.0))))))))

  -- any other end
  others_by : (e : End) → MayGo e → CarriedTo z h Q (pend t Inside e) (then_value (operate (source z) line op.Call (leave ∷ value.None ∷ value.None ∷ value.None ∷ [])) (λ v. ends_with e)) (nodes.block_row (target z) (others_block line t (t + 6) u))
  others_by e may =
      do_then z h fs Q (passing z h 2 fs) (pend t Inside e) line (u + 2) op.Call (leave ∷ value.None ∷ value.None ∷ value.None ∷ []) (of_temp (t + 6) ∷ none ∷ none ∷ none ∷ []) _ _ (less e) (omega arith) (pend_off (u + 2) e (omega arith) (omega arith))
      (λ c g y. ap (λ q. nodes.both q (Some (value.None ∷ value.None ∷ value.None ∷ []))) (pend_less t Inside e c g y).0)
      (λ v. outside_of (onward_by z h Inside t e (Holds (operand.Temp (u + 2)) v ∷ pend t Inside e) may (λ c g y. y.1)))
    where
      outside_of : {gs : Facts} {r : python.R} {c : nodes.R} → CarriedTo z h (EndsAs z h 2 (λ v. Inside) Inside) gs r c → CarriedTo z h Q gs r c
      outside_of {gs} {r} {c} x = by_map z h _ _ (EndsAs z h 2 (λ v. Inside) Inside) Q r c (λ tabs s w y. y) (λ tabs. ends_map z h 2 tabs (λ v. Inside) (λ v. fs) Inside fs (λ v s w y. refit z h tabs Inside fs s w (λ q. q.1) y) (λ s w y. refit z h tabs Inside fs s w (λ q. q.1) y)) x

  branch : (gs : Facts) (b : Bool) (r : python.R) → ((c : Value) (g : nodes.Frame) → Fits gs c g → g.temps (t + 2) ≡ Some (value.Bool b)) → CarriedTo z h Q gs r (choose (value.Bool b) (nodes.block_row (target z) (exits_block line t (t + 6) u)) (nodes.block_row (target z) (others_block line t (t + 6) u))) → CarriedTo z h Q gs r (nodes.block_row (target z) (leaving_block line t (t + 6) u))
  branch gs b r known x = if_by z h fs t gs (t + 2) b r (exits_block line t (t + 6) u) (others_block line t (t + 6) u) known x

  leaving_by : (e : End) → MayPend e → CarriedTo z h Q (pend t Inside e) (leaving (source z) line leave e) (nodes.block_row (target z) (leaving_block line t (t + 6) u))
  leaving_by (Raised x) may = branch (pend t Inside (Raised x)) true _ (λ c g y. y.0) (exits_by x)
  leaving_by (Next v) may = branch (pend t Inside (Next v)) false _ (λ c g y. y.0) (others_by (Next v) tt)
  leaving_by (Return v) may = branch (pend t Inside (Return v)) false _ (λ c g y. y.1.0) (others_by (Return v) tt)
  leaving_by (Leave i) may = branch (pend t Inside (Leave i)) false _ (λ c g y. y.1.1.0) (others_by (Leave i) may)
  leaving_by (Stopped i) may = absurd may
  leaving_by Undefined may = absurd may

  -- a guarded row, and the call that follows each of its ends
  pub left_by : (gs : Facts) (r : python.R) (b : tree.Block) → CarriedTo z h (EndsAs z h 2 (λ v. Inside) Inside) gs r (nodes.block_row (target z) b) → CarriedTo z h Q gs (Then r (leaving (source z) line leave)) (nodes.block_row (target z) (tree.Follow (guarded t b) (leaving_block line t (t + 6) u)))
  left_by gs r b x =
      let kept : (d : ℕ) → t ≤ d → d < t + 5 → Off d Inside = (λ d a b. (λ q. let e₁ : t + 6 ≡ d = q in omega arith, off d a (omega arith))) in
      kept_then z h Inside t above kept Q (leaving (source z) line leave) _ (λ i. refl) refl (λ tabs i j s w y. y) (λ tabs s w. tt) leaving_by gs r _ (kept_by z h Inside t above kept gs r b x)

pub with_carried : (h : Homes) (low t ml mh il ih bl bh item line : ℕ) (caught : Option ℕ) (manager : syntax.Expression) (targets : syntax.Targets) (body : syntax.Block) (mb bind bb : tree.Block) (o : Operand) → behind h ≤ low → Within low t ml mh → Within low t il ih → Within low t bl bh → low ≤ item → item < t → ((item < il) ⊎ (ih ≤ item)) → CarriesExpression h ml mh manager mb o → CarriesGiven h il ih (operand.Temp item) (λ l v. assign_all l v targets) bind → CarriesBlock h bl bh caught body bb → CarriesStatement h low (t + 11) caught (syntax.With line manager targets body) (with_block line t item mb o bind bb)
with_carried h low t ml mh il ih bl bh item line caught manager targets body mb bind bb o st wm wi wb l₁ l₂ apart cm ci cb =
    let g₁ = cm.grows in
    let w₁ = wm.0 in
    let w₂ = wm.1 in
    let w₃ = wi.1 in
    let w₄ = wb.1 in
    let above : behind h ≤ item = omega arith in
    record {
      starts = st;
      grows = omega arith;
      carries = λ z fs handled out hd.
          let Q : AllEnds = EndsAs z h 2 (λ v. fs) fs in
          let off : (d : ℕ) → low ≤ d → d < t + 11 → Off d fs = (λ d a b. outside_off h low (t + 11) d fs a b out) in
          value_then z h fs Q (passing z h 2 fs) fs ml mh manager mb o _ _ (λ c g y. y) cm (outside_less h low (t + 11) ml mh fs wm.0 (omega arith) out)
          (λ m. let f₁ : Facts = Holds o m ∷ fs in
          do_then z h fs Q (passing z h 2 fs) f₁ line (t + 5) op.Manager (m ∷ python.text (codes "__enter__") ∷ []) (argument.Value o ∷ argument.Name (codes "__enter__") ∷ []) _ _ (λ c g y. y.1) (omega arith) (within_off ml mh (t + 5) o m fs cm.within (omega arith) (off (t + 5) (omega arith) (omega arith))) (λ c g y. ap (λ q. nodes.both q (Some (python.text (codes "__enter__") ∷ []))) y.0)
          (λ enter. let f₂ : Facts = Holds (operand.Temp (t + 5)) enter ∷ f₁ in
          do_then z h fs Q (passing z h 2 fs) f₂ line (t + 6) op.Manager (m ∷ python.text (codes "__exit__") ∷ []) (argument.Value o ∷ argument.Name (codes "__exit__") ∷ []) _ _ (λ c g y. y.1.1) (omega arith) (λ q. let e₁ : t + 5 ≡ t + 6 = q in omega arith, within_off ml mh (t + 6) o m fs cm.within (omega arith) (off (t + 6) (omega arith) (omega arith))) (λ c g y. ap (λ q. nodes.both q (Some (python.text (codes "__exit__") ∷ []))) y.1.0)
          (λ leave. let inside : Facts = Holds (operand.Temp (t + 6)) leave ∷ fs in
          let f₃ : Facts = Holds (operand.Temp (t + 5)) enter ∷ inside in
          let known : Value → Facts = λ v. Holds (operand.Temp item) v ∷ inside in
          let side : (a b : ℕ) → low ≤ a → b ≤ t → Outside h a b inside = (λ a b la lb. ((omega arith, inr (omega arith)), outside_less h low (t + 11) a b fs la (omega arith) out)) in
          strengthen z h 2 f₃ (Holds (operand.Temp (t + 6)) leave ∷ f₂) Q _ _ (λ c g y. (y.1.0, (y.0, y.1.1.1)))
          (do_then z h fs Q (passing z h 2 fs) f₃ line item op.Call (enter ∷ []) (of_temp (t + 5) ∷ []) _ _ (λ c g y. y.1.1) above (λ q. let e₁ : t + 5 ≡ item = q in omega arith, (λ q. let e₁ : t + 6 ≡ item = q in omega arith, off item l₁ (omega arith))) (λ c g y. ap (λ q. nodes.both q (Some [])) y.0)
          (λ v. strengthen z h 2 (known v) (Holds (operand.Temp item) v ∷ f₃) Q _ _ (λ c g y. (y.0, y.1.1))
          (left_by z h fs line t (t + 7) leave (omega arith) (omega arith) (λ d a b. off d (omega arith) (omega arith)) (known v) _ (tree.append bind bb)
          (seq_to z h 0 (λ w. known v) (known v) (EndsAs z h 2 (λ w. inside) inside) _ _ bind bb (passes_to z h 0 2 (λ w. known v) (λ w. inside) (known v) inside (omega arith) (λ c g y. y.1))
          (ci.carries z (known v) v ((above, apart), side il ih wi.0 wi.1) (λ c g y. y.0))
          (λ w. strengthen z h 2 inside (known v) (EndsAs z h 2 (λ w. inside) inside) _ _ (λ c g y. y.1) (cb.carries z inside handled (side bl bh wb.0 wb.1) (handles_more caught handled fs inside (λ c g y. y.1) hd))))))))));
    }
