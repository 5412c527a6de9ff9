-- `yield from`, where what follows each value sent, and each exception thrown, is carried.
use Rattle.std.proofs.Common.{◌≡◌, ⊎_elim, ℕ, ◌+◌, ◌<◌, ◌≤◌, true, false, [], ◌∷◌, Some, codes, refl, sym, ap, subst, arith}
use Rattle.nu_value.specs.declared.value.Value.{Value}
use Rattle.nu_value.specs.declared.value.Value.TheVariants as value
use Rattle.op_forms.specs.declared.op.Op.TheVariants as op
use Rattle.nu_rows.specs.Rows.{End, Next, Leave, Raised, Return, Stopped, Undefined, Then, Loop}
use Rattle.nu_rows.specs.Words.{ends_with, on_next, on_raised}
use Rattle.nu_calls.specs.Calls.{yields}
use Rattle.code_forms.specs.declared.operand.Argument.TheVariants as argument
use Rattle.code_forms.specs.declared.operand.Operand.{Operand}
use Rattle.code_forms.specs.declared.operand.Operand.TheVariants as operand
use Rattle.node_tree.specs.Blocks.{alone, of_temp}
use Rattle.node_tree.specs.Blocks as tree
use Rattle.node_tree.specs.Nodes as nodes
use Rattle.py_meaning.specs.Syntax as syntax
use Rattle.py_meaning.specs.Frames as python
use Rattle.py_meaning.specs.Expressions.{woken, delegate_turn, result}
use Rattle.carries_base.specs.Frames.{Homes, behind, Holds, Keeps, Facts}
use Rattle.carries_base.specs.Carries.{Setting, source, target, S, T, Tables, Correspond, EndsAs, CarriedBy, CarriedTo, CarriesExpression}
use Rattle.carries_base.proofs.Facts.{Off, outside_off, outside_less, refit}
use Rattle.carries_base.proofs.Carry.{AllEnds, Settles, none_by, act_by, then_by, tidy_by, left_by, alike_by, Midway, loop_by}
use Rattle.carries_base.proofs.Sequence.{used_case, used_same, Passes, Unvalued, ends_map, strengthen, lessen, passes, next_to, unvalued, one_carried, read_by, reads_by}
use Rattle.carries_base.proofs.Small.{within_off}
use Rattle.carries_base.proofs.Operations.{operate_carried, storing_by, yields_by}
use Rattle.carries_base.proofs.Control.{writes_first}
use Rattle.node_redirect.specs.Shown.{Exits}
use Rattle.carries_control.specs.Raises.{stopped_block}
use Rattle.carries_control.specs.Loops.{attempt}
use Rattle.carries_control.proofs.Steps.{value_then, do_then}
use Rattle.carries_control.proofs.Again.{stopped_by}
use Rattle.carries_control.proofs.Attempts.{attempted, attempt_then}
use Rattle.carries_definitions.specs.Delegated.{delegate_turn_block, result_block, delegate_block}
use Rattle.carries_definitions.proofs.Sent.{BeforeTurn, DelegateEnds, DelegateTurns, CarriesSent, CarriesThrown}
use Rattle.carries_definitions.proofs.Classes.{Leaving, do_value}
use Rattle.carries_control.proofs.Loops.{stopped_exits}
use Rattle.carries_definitions.proofs.Turned.{exit_pass}
use Rattle.carries_definitions.proofs.Between.{fits_carried, carries_as, turn_unvalued, turn_passing}

-- of neither side anything is said
abbrev Unsaid : AllEnds
Unsaid tabs Undefined s Undefined t = Unit {0}
Unsaid tabs e s e' t = ⊥

module _ (z : Setting) (h : Homes) where
  unsaid_next : (k : Value → nodes.R) → Settles z h Unsaid Unsaid (on_next k)
  unsaid_next k tabs Undefined s Undefined t x = (Undefined, t, record { bound = 0; by = refl }, tt)
  unsaid_next k tabs e s e' t x = absurd x

  unsaid_raised : (k : ℕ → nodes.R) → Settles z h Unsaid Unsaid (on_raised k)
  unsaid_raised k tabs Undefined s Undefined t x = (Undefined, t, record { bound = 0; by = refl }, tt)
  unsaid_raised k tabs e s e' t x = absurd x

  unsaid_both : (Q : AllEnds) (K : Value → python.R) (D : Value → nodes.R) → ((tabs : Tables) (s : S) (t : T) → Q tabs Undefined s Undefined t) → (e e' : End) → CarriedBy z h (λ tabs s t. Unsaid tabs e s e' t) Q (on_next K e) (on_next D e')
  unsaid_both Q K D u Undefined Undefined = act_by z h _ Q _ _ (λ tabs s t x. (refl, u tabs s t))
  unsaid_both Q K D u e e' = none_by z h _ Q _ _ (λ tabs s t x. x)

module _ (z : Setting) (h : Homes) (fs : Facts) (line t : ℕ) (iterator : Value) (sb hb : tree.Block) (above : behind h ≤ t) (off : (d : ℕ) → t ≤ d → d < t + 8 → Off d fs) where
  abbrev Q : AllEnds
  Q = DelegateTurns z h t iterator fs

  -- what is carried is known to be this, and then the flag to be unset
  abbrev Known : Value → Facts
  Known v = Holds (operand.Temp (t + 1)) v ∷ Holds (operand.Temp t) iterator ∷ fs

  abbrev Ready : Value → Facts
  Ready v = Holds (operand.Temp (t + 2)) (value.Bool false) ∷ Known v

  known_off : (d : ℕ) (v : Value) → t + 1 < d → d < t + 8 → Off d (Known v)
  known_off d v a b = (λ q. let e₁ : t + 1 ≡ d = q in omega arith, (λ q. let e₁ : t ≡ d = q in omega arith, off d (omega arith) b))

  ready_off : (d : ℕ) (v : Value) → t + 2 < d → d < t + 8 → Off d (Ready v)
  ready_off d v a b = (λ q. let e₁ : t + 2 ≡ d = q in omega arith, known_off d v (omega arith) b)

  woken_exits : (e : End) → Exits e → woken (source z) line iterator e ≡ ends_with e
  woken_exits (Next v) x = absurd x
  woken_exits (Raised v) x = absurd x
  woken_exits (Leave v) x = refl
  woken_exits (Return v) x = refl
  woken_exits (Stopped v) x = refl
  woken_exits Undefined x = refl

  module _ (sent : (v : Value) → CarriedTo z h Q (Holds (operand.Temp (t + 4)) v ∷ Holds (operand.Temp t) iterator ∷ fs) (woken (source z) line iterator (Next v)) (nodes.block_row (target z) sb)) (thrown : (x : ℕ) → CarriedTo z h Q (Holds (operand.Temp (t + 3)) (value.Obj x) ∷ Holds (operand.Temp t) iterator ∷ fs) (woken (source z) line iterator (Raised x)) (nodes.block_row (target z) hb)) where
    abbrev Pause : tree.Form
    Pause = attempt (t + 3) (t + 2) (alone (tree.Yield (t + 4) line (operand.Temp (t + 1))))

    -- the pause, and what follows it
    paused_by : (v : Value) → python.used v ≡ Next v → CarriedTo z h Q (Ready v) (Then (yields (source z) line v) (woken (source z) line iterator)) (nodes.block_row (target z) (tree.Follow Pause (alone (tree.If (operand.Temp (t + 2)) hb sb))))
    paused_by v used =
        let gs : Facts = Holds (operand.Temp t) iterator ∷ fs in
        let k : Value → Facts = λ w. Holds (operand.Temp (t + 4)) w ∷ Ready v in
        attempt_then z h 0 k gs (t + 3) (t + 2) Q (turn_unvalued z h t iterator fs) (woken (source z) line iterator) hb sb woken_exits
        (exit_pass z h k gs (t + 3) (t + 2) Q (λ tabs e s e' u over x. turn_passing z h t iterator fs tabs e s e' u over (less tabs e s e' u x)))
        (λ w c g y. y.1.0)
        (λ w. strengthen z h 0 (Holds (operand.Temp (t + 4)) w ∷ gs) (k w) Q _ _ (λ c g y. (y.0, y.1.1.1)) (sent w))
        (λ x. strengthen z h 0 (Holds (operand.Temp (t + 3)) (value.Obj x) ∷ gs) _ Q _ _ (λ c g y. y.1) (thrown x))
        (Ready v) _ _
        (attempted z h 0 k gs (t + 3) (t + 2) (Ready v) _ (alone (tree.Yield (t + 4) line (operand.Temp (t + 1)))) (omega arith) (omega arith) (λ q. let e₁ : t + 3 ≡ t + 2 = q in omega arith)
        (λ q. let e₁ : t ≡ t + 3 = q in omega arith, off (t + 3) (omega arith) (omega arith)) (λ q. let e₁ : t ≡ t + 2 = q in omega arith, off (t + 2) (omega arith) (omega arith))
        (lessen z h 0 k k gs (Ready v) _ _ (λ w c g y. y) (λ c g y. y.1.1)
        (one_carried z h 0 k (Ready v) _ _
        (read_by z h 0 _ (EndsAs z h 0 k (Ready v)) (operand.Temp (t + 1)) v _ (λ w. nodes.storing (t + 4) (yields (target z) line w)) used (λ tabs s u y. y.frames.facts.1.0)
        (storing_by z h 0 _ (Ready v) (t + 4) _ _ (omega arith) (ready_off (t + 4) v (omega arith) (omega arith)) (yields_by z h (Ready v) line v))))))
      where
        less : (tabs : Tables) (e : End) (s : S) (e' : End) (u : T) → EndsAs z h 0 (λ w. Holds (operand.Temp t) iterator ∷ fs) (Holds (operand.Temp t) iterator ∷ fs) tabs e s e' u → EndsAs z h 0 (λ w. fs) fs tabs e s e' u
        less tabs e s e' u x = ends_map z h 0 tabs _ (λ w. fs) _ fs (λ w s u y. refit z h tabs (Holds (operand.Temp t) iterator ∷ fs) fs s u (λ q. q.1) y) (λ s u y. refit z h tabs (Holds (operand.Temp t) iterator ∷ fs) fs s u (λ q. q.1) y) e s e' u x

    -- nothing is said where Unset is carried
    unset_by : (v : Value) → python.used v ≡ Undefined → CarriedTo z h Q (Ready v) (python.uses v (λ w. Then (yields (source z) line w) (woken (source z) line iterator))) (nodes.block_row (target z) (tree.Follow Pause (alone (tree.If (operand.Temp (t + 2)) hb sb))))
    unset_by v e =
        then_by z h _ Unsaid Q _ _ _ _
        (tidy_by z h _ Unsaid Unsaid _ _ _ (unsaid_raised z h _)
        (tidy_by z h _ Unsaid Unsaid _ _ _ (unsaid_next z h _)
        (tidy_by z h _ Unsaid Unsaid _ _ _ (unsaid_next z h _)
        (act_by z h _ Unsaid _ _ (λ tabs s u y. (refl, subst (λ o. Unsaid tabs (python.used v) s (nodes.used o) u) (sym y.frames.facts.1.0) (subst (λ e'. Unsaid tabs (python.used v) s e' u) (sym (used_same v)) (subst (λ e'. Unsaid tabs e' s e' u) (sym e) tt))))))))
        (unsaid_both z h Q _ _ (λ tabs s u. tt))

    turn_carried : CarriedTo z h Q (BeforeTurn t iterator fs) (delegate_turn (source z) line iterator) (nodes.block_row (target z) (delegate_turn_block line t sb hb))
    turn_carried =
        reads_by z h 0 _ (λ v tabs. Correspond z h tabs (Known v)) Q (λ f. f.carried) _ _
        (λ tabs s u x. refit z h tabs (BeforeTurn t iterator fs) (Known s.frame.carried) s u (λ y. y) x)
        (λ v. writes_first z h (Known v) Q (t + 2) (value.Bool false) _ _ (omega arith) (known_off (t + 2) v (omega arith) (omega arith))
        (⊎_elim
        (λ (used : python.used v ≡ Next v).
        left_by z h _ (λ w tabs s u. (w ≡ v) × Correspond z h tabs (Ready v) s u) Q _ _ _
        (λ tabs s u y. (refl, subst (λ e. Midway z h (λ w tabs s u. (w ≡ v) × Correspond z h tabs (Ready v) s u) tabs e s u) (sym used) (refl, y)))
        (λ w. alike_by z h w v (λ tabs. Correspond z h tabs (Ready v)) Q (λ w. Then (yields (source z) line w) (woken (source z) line iterator)) (λ w. nodes.block_row (target z) (tree.Follow Pause (alone (tree.If (operand.Temp (t + 2)) hb sb)))) (paused_by v used)))
        (λ (e : python.used v ≡ Undefined). unset_by v e)
        (used_case v)))

    pub delegate_loop_carried : CarriedTo z h (DelegateEnds z h t fs) (BeforeTurn t iterator fs) (Loop (delegate_turn (source z) line iterator) (python.DelegateTurn line iterator)) (nodes.form_row (target z) (tree.Loop (delegate_turn_block line t sb hb)))
    delegate_loop_carried = loop_by z h (λ tabs. Correspond z h tabs (BeforeTurn t iterator fs)) (DelegateEnds z h t fs) _ _ (delegate_turn_block line t sb hb) refl turn_carried

pub delegate_carried : (h : Homes) (low high top line : ℕ) (x : syntax.Expression) (xb sb hb : tree.Block) (o : Operand) → high + 8 ≤ top → CarriesExpression h low high x xb o → CarriesSent h low top high line sb → CarriesThrown h low top high line hb → CarriesExpression h low top (syntax.YieldFrom line x) (delegate_block line high xb o sb hb) (operand.Temp (high + 7))
delegate_carried h low t top line x xb sb hb o room cx cs ch =
    let st = cx.starts in
    let le = cx.grows in
    record {
      starts = st;
      grows = omega arith;
      within = (omega arith, omega arith);
      carries = λ z fs out.
          let Q : AllEnds = Leaving z h 0 fs (t + 7) in
          let kept : Value → Facts = λ v. Holds (operand.Temp (t + 7)) v ∷ fs in
          let pass : Passes z h 0 (λ v. fs) fs Q = passes z h 0 (λ v. fs) kept fs in
          let un : Unvalued z h 0 Q = unvalued z h 0 kept fs in
          let off : (d : ℕ) → t ≤ d → d < t + 8 → Off d fs = (λ d a b. outside_off h low top d fs (omega arith) (omega arith) out) in
          value_then z h fs Q pass fs low t x xb o _ _ (λ c g y. y) cx (outside_less h low top low t fs (omega arith) (omega arith) out)
          (λ v. do_then z h fs Q pass (Holds o v ∷ fs) line t op.Iter (v ∷ []) (argument.Value o ∷ []) _ _ (λ c g y. y.1) (omega arith) (within_off low t t o v fs cx.within (omega arith) (off t (omega arith) (omega arith))) (λ c g y. ap (λ u. nodes.both u (Some [])) y.0)
          (λ iterator.
          let is : Facts = Holds (operand.Temp t) iterator ∷ fs in
          let gs : Facts = Holds (operand.Temp (t + 2)) (value.Bool false) ∷ is in
          let k : Value → Facts = λ w. Holds (operand.Temp (t + 1)) w ∷ gs in
          strengthen z h 0 is _ Q _ _ (λ c g y. (y.0, y.1.1))
          (writes_first z h is Q (t + 2) (value.Bool false) _ _ (omega arith) (λ q. let e₁ : t ≡ t + 2 = q in omega arith, off (t + 2) (omega arith) (omega arith))
          (attempt_then z h 0 k fs (t + 3) (t + 2) Q un _ (stopped_block line (t + 3) (t + 5) (result_block line (t + 3) (t + 7))) (tree.Follow (tree.Loop (delegate_turn_block line t sb hb)) (result_block line (t + 1) (t + 7))) (stopped_exits (source z) line _ _) (exit_pass z h k fs (t + 3) (t + 2) Q pass)
          (λ w c g y. y.1.0)
          (λ w. left_by z h _ (λ u tabs. Correspond z h tabs (BeforeTurn t iterator fs)) Q _ _ _
          (λ tabs s u y. (refl, carries_as z h tabs (k w) (BeforeTurn t iterator fs) w s u (λ q. (q.0, (q.1.1.0, fits_carried h low top fs s.frame.carried w u.frame out q.1.1.1))) y))
          (λ u. then_by z h _ (DelegateEnds z h t fs) Q _ _ _ _
          (delegate_loop_carried z h fs line t iterator sb hb (omega arith) off (λ w. cs z fs iterator w out) (λ e. ch z fs iterator e out))
          (next_to z h 0 (λ q. Keeps (t + 1) ∷ fs) fs Q _ (λ q. nodes.block_row (target z) (result_block line (t + 1) (t + 7))) (passes z h 0 (λ q. Keeps (t + 1) ∷ fs) kept fs)
          (λ p q. reads_by z h 0 _ (λ r tabs. Correspond z h tabs (Holds (operand.Temp (t + 1)) r ∷ fs)) Q (λ f. f.carried) _ _
          (λ tabs s u y. refit z h tabs (Keeps (t + 1) ∷ fs) (Holds (operand.Temp (t + 1)) s.frame.carried ∷ fs) s u (λ r. r) y)
          (λ r. do_value z h 0 fs (t + 7) (Holds (operand.Temp (t + 1)) r ∷ fs) line op.Attr (r ∷ python.text (codes "value") ∷ []) (of_temp (t + 1) ∷ argument.Name (codes "value") ∷ []) (λ c g y. y.1) (omega arith) (λ e. let e₁ : t + 1 ≡ t + 7 = e in omega arith, off (t + 7) (omega arith) (omega arith))
          (λ c g y. ap (λ a. nodes.both a (Some (python.text (codes "value") ∷ []))) y.0))))))
          (λ e. let es : Facts = Holds (operand.Temp (t + 2)) (value.Bool true) ∷ Holds (operand.Temp (t + 3)) (value.Obj e) ∷ fs in
          let es_off : (d : ℕ) → t + 3 < d → d < t + 8 → Off d es = (λ d a b. (λ q. let e₁ : t + 2 ≡ d = q in omega arith, (λ q. let e₁ : t + 3 ≡ d = q in omega arith, off d (omega arith) b))) in
          stopped_by z h fs Q pass un es line (t + 3) (t + 5) e (λ x. result (source z) line (value.Obj x)) (result_block line (t + 3) (t + 7)) (λ c g y. y.1.1) (omega arith) (es_off (t + 5) (omega arith) (omega arith)) (es_off (t + 5 + 1) (omega arith) (omega arith)) (λ c g y. y.1.0)
          (do_value z h 0 fs (t + 7) es line op.Attr (value.Obj e ∷ python.text (codes "value") ∷ []) (of_temp (t + 3) ∷ argument.Name (codes "value") ∷ []) (λ c g y. y.1.1) (omega arith) (es_off (t + 7) (omega arith) (omega arith))
          (λ c g y. ap (λ a. nodes.both a (Some (python.text (codes "value") ∷ []))) y.1.0)))
          gs _ _
          (attempted z h 0 k fs (t + 3) (t + 2) gs _ (alone (tree.Do (t + 1) line op.Next (of_temp t ∷ []))) (omega arith) (omega arith) (λ q. let e₁ : t + 3 ≡ t + 2 = q in omega arith) (off (t + 3) (omega arith) (omega arith)) (off (t + 2) (omega arith) (omega arith))
          (lessen z h 0 k k fs gs _ _ (λ w c g y. y) (λ c g y. y.1.1)
          (one_carried z h 0 k gs _ _
          (operate_carried z h 0 gs line op.Next (iterator ∷ []) (t + 1) (of_temp t ∷ []) (omega arith)
          (λ q. let e₁ : t + 2 ≡ t + 1 = q in omega arith, (λ q. let e₁ : t ≡ t + 1 = q in omega arith, off (t + 1) (omega arith) (omega arith)))
          (λ c g y. ap (λ a. nodes.both a (Some [])) y.1.0)))))))));
    }
