-- A loop of a comprehension, where its target and what stands in it are carried.
use Rattle.std.proofs.Common.{◌≡◌, ◌⊎◌, inr, ℕ, zero, ◌+◌, ◌<◌, ◌≤◌, true, false, [], ◌∷◌, Some, refl, ap, arith}
use Rattle.nu_value.specs.declared.value.Value.{Value}
use Rattle.nu_value.specs.declared.value.Value.TheVariants as value
use Rattle.op_forms.specs.declared.constant.Const.TheVariants as const
use Rattle.op_forms.specs.declared.op.Op.TheVariants as op
use Rattle.nu_rows.specs.Rows.{Next, Leave, Raised, Return, Stopped, Undefined, Begin, Ended, Then, Loop, after, interp, run, does}
use Rattle.nu_rows.specs.Words.{ends_with, on_next, then_value, choose}
use Rattle.nu_calls.specs.Calls.{operate}
use Rattle.code_forms.specs.declared.operand.Operand.{Operand}
use Rattle.code_forms.specs.declared.operand.Operand.TheVariants as operand
use Rattle.node_tree.specs.Blocks.{alone, of_temp}
use Rattle.node_tree.specs.Blocks as tree
use Rattle.node_tree.specs.Nodes as nodes
use Rattle.py_meaning.specs.Syntax as syntax
use Rattle.py_meaning.specs.Frames as python
use Rattle.py_meaning.specs.Expressions.{stopped_or}
use Rattle.py_meaning.specs.Statements.{assign}
use Rattle.py_meaning.specs.Bodies.{collect_turn, turns}
use Rattle.carries_base.specs.Frames.{Homes, behind, Holds, Facts, Outside}
use Rattle.carries_base.specs.Carries.{Setting, source, target, columns, S, T, Tables, Correspond, EndsAs, CarriedTo, Knows, CarriesTarget}
use Rattle.carries_base.specs.Laws.{Within}
use Rattle.carries_base.proofs.Facts.{Off, outside_off, outside_less, refit}
use Rattle.carries_base.proofs.Carry.{AllEnds, Settles, act_by, tidy_by, append_by, loop_by}
use Rattle.carries_base.proofs.Sequence.{Passes, Unvalued, strengthen, lessen, passes_to, seq_to, one_by, one_carried}
use Rattle.carries_base.proofs.Operations.{operate_carried}
use Rattle.carries_base.proofs.Control.{EndsLoop, once_by, writes_first}
use Rattle.carries_control.specs.Raises.{stopped_block}
use Rattle.carries_control.specs.Loops.{attempt, for_turn_block}
use Rattle.carries_control.proofs.Again.{stopped_by}
use Rattle.carries_control.proofs.Attempts.{attempted, attempt_then}
use Rattle.carries_definitions.specs.Collected.{CarriesTurns}
use Rattle.carries_control.proofs.Loops.{stopped_exits}
use Rattle.carries_definitions.proofs.Turned.{exit_pass, Turns, turns_unvalued, turns_passing}

-- a branch to nothing, on a flag that is set
flag_silent : (z : Setting) (flag : ℕ) (u : T) → u.frame.temps flag ≡ Some (value.Bool true) → does (columns z) (nodes.block_row (target z) (alone (tree.If (operand.Temp flag) tree.Stop tree.Stop))) Begin u 0 ≡ Ended [] u (Next value.None)
flag_silent z flag u known = ap (λ o. after (after (Ended [] u (nodes.used o)) (λ e v. interp (run (columns z) 0) (on_next (λ w. choose w (ends_with (Next value.None)) (ends_with (Next value.None))) e) Begin v)) (λ e v. interp (run (columns z) 0) (on_next (λ w. ends_with (Next value.None)) e) Begin v)) known

module _ (z : Setting) (h : Homes) (fs : Facts) (line t item : ℕ) (iterator : Value) (above : behind h ≤ item) (apart : item < t) where
  -- known before each turn, and once the iterator is exhausted
  abbrev pub Before : Facts
  Before = Holds (operand.Temp (t + 1)) (value.Bool false) ∷ Holds (operand.Temp t) iterator ∷ fs

  abbrev Over : Facts
  Over = Holds (operand.Temp (t + 1)) (value.Bool true) ∷ fs

  abbrev LoopEnds : AllEnds
  LoopEnds = EndsAs z h 0 (λ v. Over) fs

  abbrev Q : AllEnds
  Q = Turns z h Before (λ v. Over) fs

  un : Unvalued z h 0 Q
  un = turns_unvalued z h Before (λ v. Over) fs

  pass : Passes z h 0 (λ v. fs) fs Q
  pass = turns_passing z h Before (λ v. Over) fs

  -- what stands in the loop is in a loop of its own, which it leaves to go on
  abbrev InnerAs : AllEnds
  InnerAs tabs (Next v) s (Leave zero) u = Correspond z h tabs Before s u
  InnerAs tabs (Raised x) s (Raised y) u = (x ≡ y) × Correspond z h tabs fs s u
  InnerAs tabs (Return v) s (Return w) u = (v ≡ w) × Correspond z h tabs fs s u
  InnerAs tabs (Stopped i) s (Stopped j) u = i ≡ j
  InnerAs tabs Undefined s Undefined u = Unit {0}
  InnerAs tabs e s e' u = ⊥

  inner_done : EndsLoop z h InnerAs Q
  inner_done tabs (Next v) s (Leave zero) u x = (Next value.None, refl, x)
  inner_done tabs (Raised i) s (Raised j) u x = (Raised j, refl, x)
  inner_done tabs (Return i) s (Return j) u x = (Return j, refl, x)
  inner_done tabs (Stopped i) s (Stopped j) u x = (Stopped j, refl, x)
  inner_done tabs Undefined s Undefined u x = (Undefined, refl, x)
  inner_done tabs e s e' u x = absurd x

  shed : (tabs : Tables) (s : S) (u : T) → Correspond z h tabs Before s u → Correspond z h tabs fs s u
  shed tabs s u x = refit z h tabs Before fs s u (λ y. y.1.1) x

  inner_leaves : Settles z h (EndsAs z h 0 (λ w. Before) Before) InnerAs (on_next (λ w. nodes.block_row (target z) (alone (tree.Leave 1))))
  inner_leaves tabs (Next v) s (Next w) u x = (Leave zero, u, record { bound = 0; by = refl }, x)
  inner_leaves tabs (Leave i) s (Leave j) u x = let l : i < 0 = x.1 in absurd (omega arith)
  inner_leaves tabs (Raised v) s (Raised w) u x = (Raised w, u, record { bound = 0; by = refl }, (x.0, shed tabs s u x.1))
  inner_leaves tabs (Return v) s (Return w) u x = (Return w, u, record { bound = 0; by = refl }, (x.0, shed tabs s u x.1))
  inner_leaves tabs (Stopped v) s (Stopped w) u x = (Stopped w, u, record { bound = 0; by = refl }, x)
  inner_leaves tabs Undefined s Undefined u x = (Undefined, u, record { bound = 0; by = refl }, x)
  inner_leaves tabs e s e' u x = absurd x

  -- a turn, whose target and inner clauses are carried where the item is known
  turn_carried : (inner : Value → python.R) (b : tree.Block) → Off item fs → Off (t + 1) fs → Off (t + 2) fs → Off (t + 3) fs → Off (t + 3 + 1) fs → ((v : Value) → CarriedTo z h (EndsAs z h 0 (λ w. Before) Before) (Holds (operand.Temp item) v ∷ Before) (inner v) (nodes.block_row (target z) b)) → CarriedTo z h Q Before (Then (operate (source z) line op.Next (iterator ∷ [])) (stopped_or (source z) line inner (λ x. ends_with (Leave 0)))) (nodes.block_row (target z) (tree.Follow (attempt (t + 2) (t + 1) (alone (tree.Do item line op.Next (of_temp t ∷ [])))) (alone (tree.If (operand.Temp (t + 1)) (stopped_block line (t + 2) (t + 3) (alone (tree.Leave 1))) (alone (tree.Loop (tree.append b (alone (tree.Leave 1)))))))))
  turn_carried inner b off off₁ off₂ off₃ off₄ carried =
      let k : Value → Facts = λ v. Holds (operand.Temp item) v ∷ Before in
      attempt_then z h 0 k fs (t + 2) (t + 1) Q un _ (stopped_block line (t + 2) (t + 3) (alone (tree.Leave 1))) (alone (tree.Loop (tree.append b (alone (tree.Leave 1))))) (stopped_exits (source z) line _ _) (exit_pass z h k fs (t + 2) (t + 1) Q pass) (λ v c g y. y.1.0)
      (λ v. one_by z h 0 _ Q _ _ un
      (once_by z h _ InnerAs Q (inner v) (tree.append b (alone (tree.Leave 1))) inner_done
      (append_by z h _ InnerAs _ b (alone (tree.Leave 1)) (tidy_by z h _ (EndsAs z h 0 (λ w. Before) Before) InnerAs _ _ _ inner_leaves (carried v)))))
      (λ e. stopped_by z h fs Q pass un (Holds (operand.Temp (t + 1)) (value.Bool true) ∷ Holds (operand.Temp (t + 2)) (value.Obj e) ∷ fs) line (t + 2) (t + 3) e (λ x. ends_with (Leave 0)) (alone (tree.Leave 1)) (λ c g y. y.1.1) (omega arith)
      (λ q. let e₁ : t + 1 ≡ t + 3 = q in omega arith, (λ q. let e₁ : t + 2 ≡ t + 3 = q in omega arith, off₃))
      (λ q. let e₁ : t + 1 ≡ t + 3 + 1 = q in omega arith, (λ q. let e₁ : t + 2 ≡ t + 3 + 1 = q in omega arith, off₄))
      (λ c g y. y.1.0)
      (one_by z h 0 _ Q _ _ un (act_by z h _ Q _ _ (λ tabs s u y. (refl, refit z h tabs _ Over s u (λ q. (q.0, q.1.1)) y)))))
      Before _ _
      (attempted z h 0 k fs (t + 2) (t + 1) Before _ (alone (tree.Do item line op.Next (of_temp t ∷ []))) (omega arith) (omega arith) (λ q. let e₁ : t + 2 ≡ t + 1 = q in omega arith) off₂ off₁
      (lessen z h 0 k k fs Before _ _ (λ v c g y. y) (λ c g y. y.1.1)
      (one_carried z h 0 k Before _ _
      (operate_carried z h 0 Before line op.Next (iterator ∷ []) item (of_temp t ∷ []) above
      (λ q. let e₁ : t + 1 ≡ item = q in omega arith, (λ q. let e₁ : t ≡ item = q in omega arith, off))
      (λ c g y. ap (λ u. nodes.both u (Some [])) y.1.0)))))

  -- behind the loop, the flag leads nowhere
  loop_settles : Settles z h LoopEnds (EndsAs z h 0 (λ v. fs) fs) (on_next (λ w. nodes.block_row (target z) (alone (tree.If (operand.Temp (t + 1)) tree.Stop tree.Stop))))
  loop_settles tabs (Next v) s (Next w) u x = (Next value.None, u, record { bound = 0; by = flag_silent z (t + 1) u x.frames.facts.0 }, refit z h tabs Over fs s u (λ y. y.1) x)
  loop_settles tabs (Leave i) s (Leave j) u x = let l : i < 0 = x.1 in absurd (omega arith)
  loop_settles tabs (Raised v) s (Raised w) u x = (Raised w, u, record { bound = 0; by = refl }, x)
  loop_settles tabs (Return v) s (Return w) u x = (Return w, u, record { bound = 0; by = refl }, x)
  loop_settles tabs (Stopped v) s (Stopped w) u x = (Stopped w, u, record { bound = 0; by = refl }, x)
  loop_settles tabs Undefined s Undefined u x = (Undefined, u, record { bound = 0; by = refl }, x)
  loop_settles tabs e s e' u x = absurd x

  pub ranged_carried : (low il ih bl bh : ℕ) (into : Value) (o : Operand) (goal : syntax.Target) (inner : syntax.Turns) (bind bb : tree.Block) → behind h ≤ low → Within low t il ih → Within low t bl bh → low ≤ item → ((item < il) ⊎ (ih ≤ item)) → CarriesTarget h il ih (operand.Temp item) goal bind → CarriesTurns h bl bh line o inner bb → Knows fs o into → Outside h low (t + 5) fs → CarriedTo z h (EndsAs z h 0 (λ v. fs) fs) (Holds (operand.Temp t) iterator ∷ fs) (Loop (collect_turn (source z) line iterator goal (turns (source z) line into inner)) (python.CollectTurn line into iterator goal inner)) (nodes.block_row (target z) (tree.Follow (tree.Constant (t + 1) (const.Bool false)) (tree.Follow (tree.Loop (for_turn_block line t item bind bb)) (alone (tree.If (operand.Temp (t + 1)) tree.Stop tree.Stop)))))
  ranged_carried low il ih bl bh into o goal inner bind bb st wi wb l₁ sides ci cb known out =
      let off : (d : ℕ) → low ≤ d → d < t + 5 → Off d fs = (λ d a b. outside_off h low (t + 5) d fs a b out) in
      let has : Value → Facts = λ w. Holds (operand.Temp item) w ∷ Before in
      let E : AllEnds = EndsAs z h 0 (λ u. Before) Before in
      let side : (a b : ℕ) → low ≤ a → b ≤ t → Outside h a b Before = (λ a b la lb. ((omega arith, inr (omega arith)), ((omega arith, inr lb), outside_less h low (t + 5) a b fs la (omega arith) out))) in
      writes_first z h (Holds (operand.Temp t) iterator ∷ fs) (EndsAs z h 0 (λ v. fs) fs) (t + 1) (value.Bool false) _ _ (omega arith) (λ q. let e₁ : t ≡ t + 1 = q in omega arith, off (t + 1) (omega arith) (omega arith))
      (tidy_by z h _ LoopEnds (EndsAs z h 0 (λ v. fs) fs) _ _ _ loop_settles
      (loop_by z h (λ tabs. Correspond z h tabs Before) LoopEnds _ _ (for_turn_block line t item bind bb) refl
      (turn_carried (λ w. then_value (assign (source z) w goal) (λ u. turns (source z) line into inner)) (tree.append bind bb) (off item l₁ (omega arith)) (off (t + 1) (omega arith) (omega arith)) (off (t + 2) (omega arith) (omega arith)) (off (t + 3) (omega arith) (omega arith)) (off (t + 3 + 1) (omega arith) (omega arith))
      (λ w. seq_to z h 0 (λ u. has w) (has w) E _ _ bind bb (passes_to z h 0 0 (λ u. has w) (λ u. Before) (has w) Before (omega arith) (λ c g y. y.1))
      (ci.carries z (has w) w ((above, sides), side il ih wi.0 wi.1) (λ c g y. y.0))
      (λ u. strengthen z h 0 Before (has w) E _ _ (λ c g y. y.1)
      (cb.carries z Before into (side bl bh wb.0 wb.1) (λ c g y. known c g y.1.1)))))))
