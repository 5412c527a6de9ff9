-- Names at every home: read, bound and unbound.
use Rattle.std.proofs.Common.{◌≡◌, ℕ, ◌+◌, ◌<◌, ◌≤◌, List, [], ◌∷◌, Option, Some, refl, sym, ap, ◌∙◌, subst, arith}
use Rattle.nu_value.specs.declared.value.Value.{Value}
use Rattle.nu_value.specs.declared.value.Value.TheVariants as value
use Rattle.op_forms.specs.declared.op.Op.{Op}
use Rattle.op_forms.specs.declared.op.Op.TheVariants as op
use Rattle.op_forms.specs.Constants.{value_of}
use Rattle.nu_rows.specs.Rows.{Next}
use Rattle.nu_rows.specs.Words.{then_value}
use Rattle.nu_calls.specs.Calls.{state_of, operate}
use Rattle.code_forms.specs.declared.operand.Argument.TheVariants as argument
use Rattle.code_forms.specs.declared.operand.Operand.{Operand}
use Rattle.code_forms.specs.declared.operand.Operand.TheVariants as operand
use Rattle.node_tree.specs.Blocks.{alone, puts, of_temp}
use Rattle.node_tree.specs.Blocks as tree
use Rattle.node_tree.specs.Nodes as nodes
use Rattle.py_meaning.specs.Syntax as syntax
use Rattle.py_meaning.specs.Frames as python
use Rattle.carries_base.specs.Frames.{Homes, HaveRoom, local_at, own_at, free_at, behind, Holds, Facts, Outside}
use Rattle.carries_base.specs.Carries.{Setting, source, target, Correspond, EndsAs, Carried, Knows, CarriesExpression, CarriesTarget, CarriesStatement}
use Rattle.carries_base.proofs.Facts.{Off, outside_off, outside_home, outside_less, local_below, refit}
use Rattle.carries_base.proofs.Homes.{local_bound}
use Rattle.carries_base.proofs.Carry.{act_by}
use Rattle.carries_base.proofs.Sequence.{weaken, more_leaves, seq_carried, then_carried, one_carried, gives_carried}
use Rattle.carries_base.proofs.Operations.{operate_carried}
use Rattle.carries_names.specs.Names.{HasPlace, reads, stores, unbinds, CarriesDeletion, CarriesDeletions}
use Rattle.carries_names.proofs.Seats.{Seat, local_seat, own_seat, free_seat, seat_carried}

module _ (z : Setting) (h : Homes) (to line : ℕ) (room : HaveRoom h) (above : behind h ≤ to) where
  -- an operation on what the home of a name holds, and the name
  by_name : (fs : Facts) (place : ℕ) (f : python.Frame → Value) (o : Op) (name : List ℕ) → Seat h place f → Off to fs → Carried z h 0 (λ v. Holds (operand.Temp to) v ∷ fs) fs (then_value (python.reads f) (λ v. operate (source z) line o (v ∷ python.text name ∷ []))) (nodes.do_row (target z) to line o (of_temp place ∷ argument.Name name ∷ []))
  by_name fs place f o name seat off = seat_carried z h 0 place to line f o (λ v. v ∷ python.text name ∷ []) (of_temp place ∷ argument.Name name ∷ []) fs seat above off (λ v c g y. ap (λ u. nodes.both u (Some (python.text name ∷ []))) y.0)

  -- a name is read
  pub loads : (fs : Facts) (home : syntax.Home) → HasPlace h home → Off to fs → Carried z h 0 (λ v. Holds (operand.Temp to) v ∷ fs) fs (python.load (source z) line home) (nodes.form_row (target z) (reads h to line home))
  loads fs (syntax.Local place name) l off = by_name fs (local_at h place) _ op.Local name (local_seat h place room l) off
  loads fs (syntax.Own place name) l off = by_name fs (own_at h place) _ op.CellGet name (own_seat h place room l) off
  loads fs (syntax.Free place name) l off = by_name fs (free_at h place) _ op.FreeGet name (free_seat h place room l) off
  loads fs (syntax.Module name) l off = operate_carried z h 0 fs line op.Global (python.text name ∷ []) to (argument.Name name ∷ []) above off (λ c g y. refl)
  loads fs (syntax.InClass name) l off = by_name fs (local_at h 0) _ op.SpaceGet name (local_seat h 0 room l) off

  -- an operation whose value is of no account
  dropped : (fs : Facts) (r : python.R) (c : nodes.R) → Carried z h 0 (λ v. Holds (operand.Temp to) v ∷ fs) fs r c → Carried z h 0 (λ w. fs) fs r c
  dropped fs r c x = weaken z h 0 (λ v. Holds (operand.Temp to) v ∷ fs) (λ w. fs) fs r c (λ u c g y. y.1) x

  -- a temporary of a local variable is written
  local_put : (place : ℕ) (fs : Facts) (v : Value) (o : Operand) → place < h.filled → Off (local_at h place) fs → Knows fs o v → Carried z h 0 (λ w. fs) fs (python.changes (python.with_local place v)) (nodes.form_row (target z) (puts (local_at h place) o))
  local_put place fs v (operand.Temp t) l off knows =
      let Q = EndsAs z h 0 (λ w. fs) fs in
      act_by z h _ Q _ _ (λ tabs s u x. subst (λ w. ([] ≡ (nodes.copied u (local_at h place) w).out) × Q tabs (Next value.None) (state_of (python.with_local place v s.frame) s.around) (nodes.copied u (local_at h place) w).end (nodes.copied u (local_at h place) w).state) (sym (knows s.frame.carried u.frame x.frames.facts))
      (refl, local_bound z h tabs place v fs s u l off x))
  local_put place fs v (operand.Const c) l off knows =
      let Q = EndsAs z h 0 (λ w. fs) fs in
      act_by z h _ Q _ _ (λ tabs s u x. let e : Some (value_of c) ≡ Some v = knows s.frame.carried u.frame x.frames.facts in let same : value_of c ≡ v = cc in
      (refl, subst (λ w. Correspond z h tabs fs (state_of (python.with_local place v s.frame) s.around) (nodes.writes u (local_at h place) w)) (sym same) (local_bound z h tabs place v fs s u l off x)))

  -- a name is bound to what an operand holds
  pub stored_at : (low : ℕ) (fs : Facts) (home : syntax.Home) (v : Value) (o : Operand) → HasPlace h home → low ≤ to → Outside h low (to + 1) fs → Knows fs o v → Carried z h 0 (λ w. fs) fs (python.store (source z) line home v) (nodes.form_row (target z) (stores h to line home o))
  stored_at low fs (syntax.Local place name) v o l le out knows =
      let r = room.filled in
      local_put place fs v o l (outside_home h low (to + 1) (local_at h place) fs (local_below h place room (omega arith)) out) knows
  stored_at low fs (syntax.Own place name) v o l le out knows =
      dropped fs _ _ (seat_carried z h 0 (own_at h place) to line _ op.CellSet (λ c. c ∷ v ∷ []) (of_temp (own_at h place) ∷ argument.Value o ∷ []) fs (own_seat h place room l) above (outside_off h low (to + 1) to fs le (omega arith) out)
      (λ w c g y. ap (λ u. nodes.both u (nodes.both (nodes.operand_value g o) (Some []))) y.0 ∙ ap (λ u. nodes.both (Some w) (nodes.both u (Some []))) (knows c g y.1)))
  stored_at low fs (syntax.Free place name) v o l le out knows =
      dropped fs _ _ (seat_carried z h 0 (free_at h place) to line _ op.CellSet (λ c. c ∷ v ∷ []) (of_temp (free_at h place) ∷ argument.Value o ∷ []) fs (free_seat h place room l) above (outside_off h low (to + 1) to fs le (omega arith) out)
      (λ w c g y. ap (λ u. nodes.both u (nodes.both (nodes.operand_value g o) (Some []))) y.0 ∙ ap (λ u. nodes.both (Some w) (nodes.both u (Some []))) (knows c g y.1)))
  stored_at low fs (syntax.Module name) v o l le out knows =
      dropped fs _ _ (operate_carried z h 0 fs line op.SetGlobal (python.text name ∷ v ∷ []) to (argument.Name name ∷ argument.Value o ∷ []) above (outside_off h low (to + 1) to fs le (omega arith) out)
      (λ c g y. ap (λ u. nodes.both (Some (python.text name)) (nodes.both u (Some []))) (knows c g y)))
  stored_at low fs (syntax.InClass name) v o l le out knows =
      dropped fs _ _ (seat_carried z h 0 (local_at h 0) to line _ op.SpaceSet (λ c. c ∷ python.text name ∷ v ∷ []) (of_temp (local_at h 0) ∷ argument.Name name ∷ argument.Value o ∷ []) fs (local_seat h 0 room l) above (outside_off h low (to + 1) to fs le (omega arith) out)
      (λ w c g y. ap (λ u. nodes.both u (nodes.both (Some (python.text name)) (nodes.both (nodes.operand_value g o) (Some [])))) y.0 ∙ ap (λ u. nodes.both (Some w) (nodes.both (Some (python.text name)) (nodes.both u (Some [])))) (knows c g y.1)))

  -- a name is unbound
  pub unbound_at : (low : ℕ) (fs : Facts) (home : syntax.Home) → HasPlace h home → low ≤ to → Outside h low (to + 1) fs → Carried z h 0 (λ w. fs) fs (python.unbind (source z) line home) (nodes.block_row (target z) (unbinds h to line home))
  unbound_at low fs (syntax.Local place name) l le out =
      let r = room.filled in
      let k : Value → Facts = λ v. Holds (operand.Temp to) v ∷ fs in
      let off : Off to fs = outside_off h low (to + 1) to fs le (omega arith) out in
      let home : Off (local_at h place) fs = outside_home h low (to + 1) (local_at h place) fs (local_below h place room (omega arith)) out in
      then_carried z h 0 k (λ w. fs) fs _ _ _ _ (λ v c g y. y.1) (loads fs (syntax.Local place name) l off)
      (λ v. one_carried z h 0 (λ w. fs) (k v) _ _
      (act_by z h _ (EndsAs z h 0 (λ w. fs) (k v)) _ _ (λ tabs s t x. (refl, local_bound z h tabs place value.Unset fs s t l home (refit z h tabs (k v) fs s t (λ y. y.1) x)))))
  unbound_at low fs (syntax.Own place name) l le out =
      one_carried z h 0 (λ w. fs) fs _ _ (dropped fs _ _ (by_name fs (own_at h place) _ op.CellDel name (own_seat h place room l) (outside_off h low (to + 1) to fs le (omega arith) out)))
  unbound_at low fs (syntax.Free place name) l le out =
      one_carried z h 0 (λ w. fs) fs _ _ (dropped fs _ _ (by_name fs (free_at h place) _ op.FreeDel name (free_seat h place room l) (outside_off h low (to + 1) to fs le (omega arith) out)))
  unbound_at low fs (syntax.Module name) l le out =
      one_carried z h 0 (λ w. fs) fs _ _ (dropped fs _ _ (operate_carried z h 0 fs line op.DelGlobal (python.text name ∷ []) to (argument.Name name ∷ []) above (outside_off h low (to + 1) to fs le (omega arith) out) (λ c g y. refl)))
  unbound_at low fs (syntax.InClass name) l le out =
      one_carried z h 0 (λ w. fs) fs _ _ (dropped fs _ _ (by_name fs (local_at h 0) _ op.SpaceDel name (local_seat h 0 room l) (outside_off h low (to + 1) to fs le (omega arith) out)))

pub read_carried : (h : Homes) (low to line : ℕ) (home : syntax.Home) → HaveRoom h → HasPlace h home → behind h ≤ low → low ≤ to → CarriesExpression h low (to + 1) (syntax.Name line home) (alone (reads h to line home)) (operand.Temp to)
read_carried h low to line home room l st le =
    let above : behind h ≤ to = omega arith in
    record {
      starts = st;
      grows = omega arith;
      within = (le, omega arith);
      carries = λ z fs out. one_carried z h 0 (λ v. Holds (operand.Temp to) v ∷ fs) fs _ _ (loads z h to line room above fs home l (outside_off h low (to + 1) to fs le (omega arith) out));
    }

pub store_carried : (h : Homes) (low to line : ℕ) (home : syntax.Home) (o : Operand) → HaveRoom h → HasPlace h home → behind h ≤ low → low ≤ to → CarriesTarget h low (to + 1) o (syntax.ToName line home) (alone (stores h to line home o))
store_carried h low to line home o room l st le =
    let above : behind h ≤ to = omega arith in
    record {
      starts = st;
      grows = omega arith;
      carries = λ z fs v out knows. one_carried z h 0 (λ w. fs) fs _ _ (stored_at z h to line room above low fs home v o l le out knows);
    }

pub delete_carried : (h : Homes) (low to line : ℕ) (home : syntax.Home) → HaveRoom h → HasPlace h home → behind h ≤ low → low ≤ to → CarriesDeletion h low (to + 1) (syntax.ToName line home) (unbinds h to line home)
delete_carried h low to line home room l st le =
    let above : behind h ≤ to = omega arith in
    record { starts = st; grows = omega arith; carries = λ z fs out. unbound_at z h to line room above low fs home l le out }

pub no_deletion_carried : (h : Homes) (low : ℕ) → behind h ≤ low → CarriesDeletions h low low syntax.NoTarget tree.Stop
no_deletion_carried h low st = record { starts = st; grows = omega arith; carries = λ z fs out. gives_carried z h 0 (λ w. fs) fs _ (λ c g x. x) }

pub deletions_carried : (h : Homes) (low mid high : ℕ) (x : syntax.Target) (xs : syntax.Targets) (a b : tree.Block) → CarriesDeletion h low mid x a → CarriesDeletions h mid high xs b → CarriesDeletions h low high (syntax.AlsoTo x xs) (tree.append a b)
deletions_carried h low mid high x xs a b ca cb =
    let l₁ : low ≤ mid = ca.grows in
    let l₂ : mid ≤ high = cb.grows in
    record {
      starts = ca.starts;
      grows = omega arith;
      carries = λ z fs out. seq_carried z h 0 (λ w. fs) (λ w. fs) fs _ _ a b (λ w c g x. x)
          (ca.carries z fs (outside_less h low high low mid fs (omega arith) l₂ out))
          (λ w. cb.carries z fs (outside_less h low high mid high fs l₁ (omega arith) out));
    }

pub deleted_carried : (h : Homes) (low high : ℕ) (caught : Option ℕ) (x : syntax.Target) (b : tree.Block) → CarriesDeletion h low high x b → CarriesStatement h low high caught (syntax.Delete x) b
deleted_carried h low high caught x b c = record {
  starts = c.starts;
  grows = c.grows;
  carries = λ z fs handled out hd. more_leaves z h 0 2 (λ w. fs) fs _ _ (omega arith) (c.carries z fs out);
}
