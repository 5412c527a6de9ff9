-- `finally`, and clauses with names, where their parts are carried.
use Rattle.std.proofs.Common.{◌≡◌, inr, ℕ, zero, suc, ◌+◌, ◌<◌, ◌≤◌, Bool, true, false, [], Option, Some, None, refl, arith}
use Rattle.nu_value.specs.declared.value.Value.{Value}
use Rattle.nu_value.specs.declared.value.Value.TheVariants as value
use Rattle.op_forms.specs.declared.constant.Const.TheVariants as const
use Rattle.nu_rows.specs.Rows.{End, Next, Leave, Raised, Return, Stopped, Undefined, Then}
use Rattle.nu_rows.specs.Words.{ends_with, on_next, choose}
use Rattle.code_forms.specs.declared.operand.Operand.TheVariants as operand
use Rattle.node_tree.specs.Blocks.{alone}
use Rattle.node_tree.specs.Blocks as tree
use Rattle.node_tree.specs.Nodes as nodes
use Rattle.py_meaning.specs.Syntax as syntax
use Rattle.py_meaning.specs.Frames as python
use Rattle.py_meaning.specs.Statements.{ends_again, pending, finishing}
use Rattle.carries_base.specs.Frames.{Homes, behind, Facts, Fits, Outside}
use Rattle.carries_base.specs.Carries.{Setting, target, EndsAs, CarriedBy, CarriedTo, Carried, CarriesTarget, CarriesStatement, CarriesBlock}
use Rattle.carries_base.specs.Laws.{Within}
use Rattle.carries_base.proofs.Facts.{Off, outside_off, outside_less, refit}
use Rattle.carries_base.proofs.Carry.{AllEnds, none_by, act_by, then_by, append_by}
use Rattle.carries_base.proofs.Sequence.{passes_to, more_leaves, seq_to, seq_carried, unvalued, one_by}
use Rattle.carries_base.proofs.Control.{flagged_by, return_by}
use Rattle.carries_names.specs.Names.{CarriesDeletion}
use Rattle.carries_names.proofs.Functions.{Extends}
use Rattle.carries_control.specs.Finish.{further, outside, onward, raised_or, finally_block}
use Rattle.carries_control.specs.Tries.{CarriesClause}
use Rattle.carries_control.proofs.Steps.{passing}
use Rattle.carries_control.proofs.Again.{again_by}
use Rattle.carries_control.proofs.Kept.{pend, MayPend, kept_by, kept_then}

pub pend_less : (t : ℕ) (fs : Facts) (e : End) → Extends (pend t fs e) fs
pend_less t fs (Next v) c g y = y.1.1
pend_less t fs (Raised x) c g y = y.1.1.1
pend_less t fs (Return v) c g y = y.1.1.1.1
pend_less t fs (Leave i) c g y = y.1.1.1.1
pend_less t fs (Stopped i) c g y = y
pend_less t fs Undefined c g y = y

-- the temporaries lie behind those of a clause
pub pend_outside : (h : Homes) (low high t : ℕ) (fs : Facts) (e : End) → behind h ≤ t → high ≤ t → Outside h low high fs → Outside h low high (pend t fs e)
pend_outside h low high t fs (Next v) st le x = ((omega arith, inr (omega arith)), ((omega arith, inr (omega arith)), x))
pend_outside h low high t fs (Raised v) st le x = ((omega arith, inr (omega arith)), ((omega arith, inr (omega arith)), ((st, inr le), x)))
pend_outside h low high t fs (Return v) st le x = ((omega arith, inr (omega arith)), ((omega arith, inr (omega arith)), ((omega arith, inr (omega arith)), ((st, inr le), x))))
pend_outside h low high t fs (Leave v) st le x = ((omega arith, inr (omega arith)), ((omega arith, inr (omega arith)), ((omega arith, inr (omega arith)), ((omega arith, inr (omega arith)), x))))
pend_outside h low high t fs (Stopped v) st le x = x
pend_outside h low high t fs Undefined st le x = x

-- an end that goes on by itself
abbrev pub MayGo : End → Type 0
MayGo (Next v) = Unit {0}
MayGo (Return v) = Unit {0}
MayGo (Leave i) = i < 2
MayGo e = ⊥

module _ (z : Setting) (h : Homes) (fs : Facts) (t : ℕ) where
  abbrev pub Ends : AllEnds
  Ends = EndsAs z h 2 (λ v. fs) fs

  -- a branch on a flag that is known
  pub if_by : (gs : Facts) (a : ℕ) (b : Bool) (r : python.R) (y n : tree.Block) → ((c : Value) (g : nodes.Frame) → Fits gs c g → g.temps a ≡ Some (value.Bool b)) → CarriedTo z h Ends gs r (choose (value.Bool b) (nodes.block_row (target z) y) (nodes.block_row (target z) n)) → CarriedTo z h Ends gs r (nodes.block_row (target z) (alone (tree.If (operand.Temp a) y n)))
  if_by gs a b r y n known x = one_by z h 2 _ Ends _ _ (unvalued z h 2 (λ v. fs) fs) (flagged_by z h _ Ends (operand.Temp a) b r y n (λ tabs s u q. known s.frame.carried u.frame q.frames.facts) x)

  leave_by : (gs : Facts) (i : ℕ) → i < 2 → Extends gs fs → CarriedTo z h Ends gs (ends_with (Leave i)) (nodes.block_row (target z) (alone (tree.Leave (suc i))))
  leave_by gs i l more = one_by z h 2 _ Ends _ _ (unvalued z h 2 (λ v. fs) fs) (act_by z h _ Ends _ (λ t. record { out = []; state = t; end = Leave i }) (λ tabs s u x. (refl, (refl, l, refit z h tabs gs fs s u (more s.frame.carried u.frame) x))))

  pub onward_by : (e : End) (gs : Facts) → MayGo e → Extends gs (pend t fs e) → CarriedTo z h Ends gs (ends_with e) (nodes.block_row (target z) (onward t))
  onward_by (Next v) gs may more =
      if_by gs (t + 1) false _ (outside t) tree.Stop (λ c g y. (more c g y).1.0)
      (act_by z h _ Ends _ _ (λ tabs s u x. (refl, refit z h tabs gs fs s u (λ q. (more s.frame.carried u.frame q).1.1) x)))
  onward_by (Return v) gs may more =
      if_by gs (t + 1) true _ (outside t) tree.Stop (λ c g y. (more c g y).1.1.0)
      (if_by gs (t + 3) true _ (alone (tree.Return (operand.Temp t))) (further t) (λ c g y. (more c g y).0)
      (one_by z h 2 _ Ends _ _ (unvalued z h 2 (λ v. fs) fs)
      (return_by z h _ Ends (operand.Temp t) v (λ tabs s u x. (more s.frame.carried u.frame x.frames.facts).1.1.1.0) (λ tabs s u x. (refl, refit z h tabs gs fs s u (λ q. (more s.frame.carried u.frame q).1.1.1.1) x)))))
  onward_by (Leave zero) gs may more =
      if_by gs (t + 1) true _ (outside t) tree.Stop (λ c g y. (more c g y).1.1.1.0)
      (if_by gs (t + 3) false _ (alone (tree.Return (operand.Temp t))) (further t) (λ c g y. (more c g y).1.0)
      (if_by gs (t + 4) false _ (alone (tree.Leave 2)) (alone (tree.Leave 1)) (λ c g y. (more c g y).0)
      (leave_by gs 0 (omega arith) (λ c g y. (more c g y).1.1.1.1))))
  onward_by (Leave (suc zero)) gs may more =
      if_by gs (t + 1) true _ (outside t) tree.Stop (λ c g y. (more c g y).1.1.1.0)
      (if_by gs (t + 3) false _ (alone (tree.Return (operand.Temp t))) (further t) (λ c g y. (more c g y).1.0)
      (if_by gs (t + 4) true _ (alone (tree.Leave 2)) (alone (tree.Leave 1)) (λ c g y. (more c g y).0)
      (leave_by gs 1 (omega arith) (λ c g y. (more c g y).1.1.1.1))))
  onward_by (Leave (suc (suc i))) gs may more = let l : suc (suc i) < 2 = may in absurd (omega arith)
  onward_by (Raised x) gs may more = absurd may
  onward_by (Stopped x) gs may more = absurd may
  onward_by Undefined gs may more = absurd may

  -- the end that was pending goes on
  dispatch : (e : End) → MayPend e → CarriedTo z h Ends (pend t fs e) (ends_again e) (nodes.block_row (target z) (raised_or t (onward t)))
  dispatch (Raised x) may =
      if_by (pend t fs (Raised x)) (t + 2) true _ (alone (tree.Raise (operand.Temp t))) (onward t) (λ c g y. y.0)
      (one_by z h 2 _ Ends _ _ (unvalued z h 2 (λ v. fs) fs) (again_by z h fs Ends (passing z h 2 fs) (pend t fs (Raised x)) t x (pend_less t fs (Raised x)) (λ c g y. y.1.1.0)))
  dispatch (Next v) may = if_by (pend t fs (Next v)) (t + 2) false _ (alone (tree.Raise (operand.Temp t))) (onward t) (λ c g y. y.0) (onward_by (Next v) (pend t fs (Next v)) tt (λ c g y. y))
  dispatch (Return v) may = if_by (pend t fs (Return v)) (t + 2) false _ (alone (tree.Raise (operand.Temp t))) (onward t) (λ c g y. y.1.0) (onward_by (Return v) (pend t fs (Return v)) tt (λ c g y. y))
  dispatch (Leave i) may = if_by (pend t fs (Leave i)) (t + 2) false _ (alone (tree.Raise (operand.Temp t))) (onward t) (λ c g y. y.1.1.0) (onward_by (Leave i) (pend t fs (Leave i)) may (λ c g y. y))
  dispatch (Stopped i) may = absurd may
  dispatch Undefined may = absurd may

  module _ (last : python.R) (lb : tree.Block) (carried : (e : End) → Carried z h 2 (λ v. pend t fs e) (pend t fs e) last (nodes.block_row (target z) lb)) where
    after_last : (e : End) → MayPend e → (x x' : End) → CarriedBy z h (λ tabs s u. EndsAs z h 2 (λ v. pend t fs e) (pend t fs e) tabs x s x' u) Ends (pending e x) (on_next (λ w. nodes.block_row (target z) (raised_or t (onward t))) x')
    after_last e may (Next v) (Next w) = dispatch e may
    after_last e may (Leave i) (Leave j) = act_by z h _ Ends _ _ (λ tabs s u y. (refl, (y.0, y.1, refit z h tabs (pend t fs e) fs s u (pend_less t fs e s.frame.carried u.frame) y.2)))
    after_last e may (Raised i) (Raised j) = act_by z h _ Ends _ _ (λ tabs s u y. (refl, (y.0, refit z h tabs (pend t fs e) fs s u (pend_less t fs e s.frame.carried u.frame) y.1)))
    after_last e may (Return i) (Return j) = act_by z h _ Ends _ _ (λ tabs s u y. (refl, (y.0, refit z h tabs (pend t fs e) fs s u (pend_less t fs e s.frame.carried u.frame) y.1)))
    after_last e may (Stopped i) (Stopped j) = act_by z h _ Ends _ _ (λ tabs s u y. (refl, y))
    after_last e may Undefined Undefined = act_by z h _ Ends _ _ (λ tabs s u y. (refl, tt))
    after_last e may x x' = none_by z h _ Ends _ _ (λ tabs s u y. y)

    last_then : (e : End) → MayPend e → CarriedTo z h Ends (pend t fs e) (Then last (pending e)) (nodes.block_row (target z) (tree.append lb (raised_or t (onward t))))
    last_then e may = append_by z h _ Ends _ lb (raised_or t (onward t)) (then_by z h _ (EndsAs z h 2 (λ v. pend t fs e) (pend t fs e)) Ends _ _ (pending e) _ (carried e) (after_last e may))

    finishes : (e : End) → MayPend e → CarriedTo z h Ends (pend t fs e) (finishing last e) (nodes.block_row (target z) (tree.append lb (raised_or t (onward t))))
    finishes (Next v) may = last_then (Next v) may
    finishes (Raised v) may = last_then (Raised v) may
    finishes (Return v) may = last_then (Return v) may
    finishes (Leave v) may = last_then (Leave v) may
    finishes (Stopped v) may = absurd may
    finishes Undefined may = absurd may

    pub finish_by : (above : behind h ≤ t) (off : (d : ℕ) → t ≤ d → d < t + 5 → Off d fs) (r : python.R) (b : tree.Block) → Carried z h 2 (λ v. fs) fs r (nodes.block_row (target z) b) → CarriedTo z h Ends fs (Then r (finishing last)) (nodes.block_row (target z) (finally_block t b lb))
    finish_by above off r b x =
        kept_then z h fs t above off Ends (finishing last) _ (λ i. refl) refl (λ tabs i j s u y. y) (λ tabs s u. tt) finishes fs r _
        (kept_by z h fs t above off fs r b x)

pub finally_carried : (h : Homes) (low t bl bh ll lh : ℕ) (caught : Option ℕ) (body last : syntax.Block) (bb lb : tree.Block) → behind h ≤ low → Within low t bl bh → Within low t ll lh → CarriesBlock h bl bh caught body bb → CarriesBlock h ll lh None last lb → CarriesStatement h low (t + 5) caught (syntax.Finally body last) (finally_block t bb lb)
finally_carried h low t bl bh ll lh caught body last bb lb st wb wl cb cl =
    let g = cb.grows in
    let w₁ = wb.0 in
    let w₂ = wb.1 in
    let w₃ = wl.1 in
    record {
      starts = st;
      grows = omega arith;
      carries = λ z fs handled out hd. finish_by z h fs t _ lb
          (λ e. cl.carries z (pend t fs e) None (pend_outside h ll lh t fs e (omega arith) wl.1 (outside_less h low (t + 5) ll lh fs wl.0 (omega arith) out)) tt)
          (omega arith) (λ d a b. outside_off h low (t + 5) d fs (omega arith) b out) _ bb
          (cb.carries z fs handled (outside_less h low (t + 5) bl bh fs wb.0 (omega arith) out) hd);
    }

pub named_carried : (h : Homes) (low t sl sh bl bh nl nh dl dh temp : ℕ) (name : syntax.Caught) (body : syntax.Block) (sb bb nb db : tree.Block) → behind h ≤ low → Within low t sl sh → Within low t bl bh → Within low t nl nh → Within low t dl dh → CarriesTarget h sl sh (operand.Temp temp) (syntax.ToName name.line name.home) sb → CarriesBlock h bl bh (Some temp) body bb → CarriesTarget h nl nh (operand.Const const.None) (syntax.ToName name.line name.home) nb → CarriesDeletion h dl dh (syntax.ToName name.line name.home) db → CarriesClause h low (t + 5) temp (Some name) body (tree.append sb (finally_block t bb (tree.append nb db)))
named_carried h low t sl sh bl bh nl nh dl dh temp name body sb bb nb db st ws wb wn wd cs cb cn cd =
    let g = cb.grows in
    let w₁ = wb.0 in
    let w₂ = wb.1 in
    let w₃ = ws.1 in
    let w₄ = wn.1 in
    let w₅ = wd.1 in
    record {
      starts = st;
      grows = omega arith;
      carries = λ z fs handled x out known.
          let Q : AllEnds = EndsAs z h 2 (λ v. fs) fs in
          let side : (a b : ℕ) → low ≤ a → b ≤ t + 5 → Outside h a b fs = (λ a b la lb. outside_less h low (t + 5) a b fs la lb out) in
          seq_to z h 0 (λ w. fs) fs Q _ _ sb _ (passes_to z h 0 2 (λ w. fs) (λ v. fs) fs fs (omega arith) (λ c g y. y)) (cs.carries z fs (value.Obj x) (side sl sh ws.0 (omega arith)) known)
          (λ w. finish_by z h fs t _ (tree.append nb db)
          (λ e.
          let gs : Facts = pend t fs e in
          seq_carried z h 2 (λ u. gs) (λ u. gs) gs _ _ nb db (λ u c g y. y)
          (more_leaves z h 0 2 (λ u. gs) gs _ _ (omega arith) (cn.carries z gs value.None (pend_outside h nl nh t fs e (omega arith) wn.1 (side nl nh wn.0 (omega arith))) (λ c g y. refl)))
          (λ u. more_leaves z h 0 2 (λ u. gs) gs _ _ (omega arith) (cd.carries z gs (pend_outside h dl dh t fs e (omega arith) wd.1 (side dl dh wd.0 (omega arith))))))
          (omega arith) (λ d a b. outside_off h low (t + 5) d fs (omega arith) b out) _ bb
          (cb.carries z fs (Some x) (side bl bh wb.0 (omega arith)) known));
    }
