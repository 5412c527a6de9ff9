-- `for`, where its parts are carried.
use Rattle.std.proofs.Common.{◌≡◌, ◌⊎◌, inr, ℕ, ◌+◌, ◌<◌, ◌≤◌, true, false, [], ◌∷◌, Option, Some, None, refl, ap, arith}
use Rattle.nu_value.specs.declared.value.Value.{Value}
use Rattle.nu_value.specs.declared.value.Value.TheVariants as value
use Rattle.op_forms.specs.declared.op.Op.TheVariants as op
use Rattle.nu_rows.specs.Rows.{End, Next, Leave, Raised, Return, Stopped, Undefined, Then}
use Rattle.nu_rows.specs.Words.{ends_with, then_value}
use Rattle.nu_calls.specs.Calls.{operate}
use Rattle.code_forms.specs.declared.operand.Argument.TheVariants as argument
use Rattle.code_forms.specs.declared.operand.Operand.{Operand}
use Rattle.code_forms.specs.declared.operand.Operand.TheVariants as operand
use Rattle.node_tree.specs.Blocks.{alone, of_temp}
use Rattle.node_tree.specs.Blocks as tree
use Rattle.node_tree.specs.Nodes as nodes
use Rattle.py_meaning.specs.Syntax as syntax
use Rattle.py_meaning.specs.Frames as python
use Rattle.py_meaning.specs.Expressions.{stopped_or}
use Rattle.py_meaning.specs.Statements.{assign, block, body_ended, exhausted}
use Rattle.carries_base.specs.Frames.{Homes, behind, Holds, Facts, Outside}
use Rattle.carries_base.specs.Carries.{Setting, source, target, S, T, Tables, Correspond, EndsAs, CarriedTo, Handles, CarriesExpression, CarriesTarget, CarriesStatement, CarriesBlock}
use Rattle.carries_base.specs.Laws.{Within}
use Rattle.carries_base.proofs.Facts.{Off, outside_off, outside_less, refit}
use Rattle.carries_base.proofs.Carry.{AllEnds, act_by, then_by, loop_by}
use Rattle.carries_base.proofs.Sequence.{strengthen, lessen, passes_to, seq_to, one_by, one_carried}
use Rattle.carries_base.proofs.Small.{within_off}
use Rattle.carries_base.proofs.Operations.{operate_carried}
use Rattle.carries_base.proofs.Control.{writes_first}
use Rattle.carries_names.proofs.Functions.{Extends}
use Rattle.carries_control.specs.Raises.{stopped_block}
use Rattle.carries_control.specs.Loops.{attempt, for_turn_block, for_block}
use Rattle.carries_control.proofs.Steps.{passing, value_then, do_then}
use Rattle.carries_control.proofs.Again.{stopped_by}
use Rattle.node_redirect.specs.Shown.{Exits}
use Rattle.carries_control.proofs.Attempts.{Attempted, attempted, attempt_then}
use Rattle.carries_control.proofs.Turned.{LoopEnds, TurnAs, turn_unvalued, turn_passing, body_in_loop, else_after}

-- the exception of a clause around it stays known
pub handles_more : (caught handled : Option ℕ) (fs gs : Facts) → Extends gs fs → Handles fs caught handled → Handles gs caught handled
handles_more None None fs gs more x = tt
handles_more (Some t) (Some y) fs gs more x = λ c g q. x c g (more c g q)
handles_more caught handled fs gs more x = absurd x

pub stopped_exits : (l : python.L) (line : ℕ) (more : Value → python.R) (over : ℕ → python.R) (e : End) → Exits e → stopped_or l line more over e ≡ ends_with e
stopped_exits l line more over (Next v) x = absurd x
stopped_exits l line more over (Raised v) x = absurd x
stopped_exits l line more over (Leave v) x = refl
stopped_exits l line more over (Return v) x = refl
stopped_exits l line more over (Stopped v) x = refl
stopped_exits l line more over Undefined x = refl

module _ (z : Setting) (h : Homes) (fs : Facts) (line t item : ℕ) (iterator : Value) (above : behind h ≤ item) (apart : item < t) where
  -- known before each turn, and once the iterator is exhausted
  abbrev Before : Facts
  Before = Holds (operand.Temp (t + 1)) (value.Bool false) ∷ Holds (operand.Temp t) iterator ∷ fs

  abbrev Over : Facts
  Over = Holds (operand.Temp (t + 1)) (value.Bool true) ∷ fs

  abbrev Q : AllEnds
  Q = TurnAs z h fs Before Over

  turn_pass : (k : Value → Facts) (tabs : Tables) (e : End) (s : S) (e' : End) (u : T) → Exits e → Attempted z h 0 k fs (t + 2) (t + 1) tabs e s e' u → Q tabs e s e' u
  turn_pass k tabs (Next v) s e' u over x = absurd over
  turn_pass k tabs (Raised v) s e' u over x = absurd over
  turn_pass k tabs (Leave i) s (Leave j) u over x = let l : i < 0 = x.1 in absurd (omega arith)
  turn_pass k tabs (Return v) s (Return w) u over x = x
  turn_pass k tabs (Stopped v) s (Stopped w) u over x = x
  turn_pass k tabs Undefined s Undefined u over x = tt
  turn_pass k tabs e s e' u over x = absurd x

  -- a turn, whose target and body are carried where the item is known
  turn_carried : (target_row : Value → python.R) (body : python.R) (b : tree.Block) → Off item fs → Off (t + 1) fs → Off (t + 2) fs → Off (t + 3) fs → Off (t + 3 + 1) fs → ((v : Value) → CarriedTo z h (EndsAs z h 2 (λ w. Before) Before) (Holds (operand.Temp item) v ∷ Before) (then_value (target_row v) (λ w. body)) (nodes.block_row (target z) b)) → CarriedTo z h Q Before (Then (operate (source z) line op.Next (iterator ∷ [])) (stopped_or (source z) line (λ v. Then (then_value (target_row v) (λ w. body)) body_ended) (λ x. exhausted))) (nodes.block_row (target z) (tree.Follow (attempt (t + 2) (t + 1) (alone (tree.Do item line op.Next (of_temp t ∷ [])))) (alone (tree.If (operand.Temp (t + 1)) (stopped_block line (t + 2) (t + 3) (alone (tree.Leave 1))) (alone (tree.Loop (tree.append b (alone (tree.Leave 1)))))))))
  turn_carried target_row body b off off₁ off₂ off₃ off₄ inner =
      let k : Value → Facts = λ v. Holds (operand.Temp item) v ∷ Before in
      attempt_then z h 0 k fs (t + 2) (t + 1) Q (turn_unvalued z h fs Before Over) _ (stopped_block line (t + 2) (t + 3) (alone (tree.Leave 1))) (alone (tree.Loop (tree.append b (alone (tree.Leave 1))))) (stopped_exits (source z) line _ _) (turn_pass k) (λ v c g y. y.1.0)
      (λ v. one_by z h 2 _ Q _ _ (turn_unvalued z h fs Before Over)
      (body_in_loop z h fs Before Over (λ c g y. y.1.1) (k v) _ b (inner v)))
      (λ e. stopped_by z h fs Q (turn_passing z h fs Before Over) (turn_unvalued z h fs Before Over) (Holds (operand.Temp (t + 1)) (value.Bool true) ∷ Holds (operand.Temp (t + 2)) (value.Obj e) ∷ fs) line (t + 2) (t + 3) e (λ x. exhausted) (alone (tree.Leave 1)) (λ c g y. y.1.1) (omega arith)
      (λ q. let e₁ : t + 1 ≡ t + 3 = q in omega arith, (λ q. let e₁ : t + 2 ≡ t + 3 = q in omega arith, off₃))
      (λ q. let e₁ : t + 1 ≡ t + 3 + 1 = q in omega arith, (λ q. let e₁ : t + 2 ≡ t + 3 + 1 = q in omega arith, off₄))
      (λ c g y. y.1.0)
      (one_by z h 2 _ Q _ _ (turn_unvalued z h fs Before Over) (act_by z h _ Q _ _ (λ tabs s u y. (refl, refit z h tabs _ Over s u (λ q. (q.0, q.1.1)) y)))))
      Before _ _
      (attempted z h 0 k fs (t + 2) (t + 1) Before _ (alone (tree.Do item line op.Next (of_temp t ∷ []))) (omega arith) (omega arith) (λ q. let e₁ : t + 2 ≡ t + 1 = q in omega arith) off₂ off₁
      (lessen z h 0 k k fs Before _ _ (λ v c g y. y) (λ c g y. y.1.1)
      (one_carried z h 0 k Before _ _
      (operate_carried z h 0 Before line op.Next (iterator ∷ []) item (of_temp t ∷ []) above
      (λ q. let e₁ : t + 1 ≡ item = q in omega arith, (λ q. let e₁ : t ≡ item = q in omega arith, off))
      (λ c g y. ap (λ u. nodes.both u (Some [])) y.1.0)))))

pub for_carried : (h : Homes) (low t xl xh il ih bl bh ol oh item line : ℕ) (caught : Option ℕ) (target : syntax.Target) (over : syntax.Expression) (body other : syntax.Block) (xb bind bb ob : tree.Block) (o : Operand) → behind h ≤ low → Within low t xl xh → Within low t il ih → Within low t bl bh → Within low t ol oh → low ≤ item → item < t → ((item < il) ⊎ (ih ≤ item)) → CarriesExpression h xl xh over xb o → CarriesTarget h il ih (operand.Temp item) target bind → CarriesBlock h bl bh caught body bb → CarriesBlock h ol oh caught other ob → CarriesStatement h low (t + 5) caught (syntax.For line target over body other) (for_block line t item xb o bind bb ob)
for_carried h low t xl xh il ih bl bh ol oh item line caught goal over body other xb bind bb ob o st wx wi wb wo l₁ l₂ apart cx ci cb co =
    let g₁ = cx.grows in
    let w₁ = wx.0 in
    let w₂ = wx.1 in
    let w₃ = wi.1 in
    let w₄ = wb.1 in
    let w₅ = wo.1 in
    let above : behind h ≤ item = omega arith in
    record {
      starts = st;
      grows = omega arith;
      carries = λ z fs handled out hd.
          let Q : AllEnds = EndsAs z h 2 (λ v. fs) fs in
          let off : (d : ℕ) → low ≤ d → d < t + 5 → Off d fs = (λ d a b. outside_off h low (t + 5) d fs a b out) in
          let off₁ : Off (t + 1) fs = off (t + 1) (omega arith) (omega arith) in
          value_then z h fs Q (passing z h 2 fs) fs xl xh over xb o _ _ (λ c g y. y) cx (outside_less h low (t + 5) xl xh fs wx.0 (omega arith) out)
          (λ v. do_then z h fs Q (passing z h 2 fs) (Holds o v ∷ fs) line t op.Iter (v ∷ []) (argument.Value o ∷ []) _ _ (λ c g y. y.1) (omega arith) (within_off xl xh t o v fs cx.within wx.1 (off t (omega arith) (omega arith))) (λ c g y. ap (λ u. nodes.both u (Some [])) y.0)
          (λ iterator.
          let before : Facts = Holds (operand.Temp (t + 1)) (value.Bool false) ∷ Holds (operand.Temp t) iterator ∷ fs in
          let ended : Facts = Holds (operand.Temp (t + 1)) (value.Bool true) ∷ fs in
          let known : Value → Facts = λ w. Holds (operand.Temp item) w ∷ before in
          let side : (a b : ℕ) → low ≤ a → b ≤ t → Outside h a b before = (λ a b la lb. ((omega arith, inr (omega arith)), ((omega arith, inr lb), outside_less h low (t + 5) a b fs la (omega arith) out))) in
          strengthen z h 2 (Holds (operand.Temp t) iterator ∷ fs) _ Q _ _ (λ c g y. (y.0, y.1.1))
          (writes_first z h (Holds (operand.Temp t) iterator ∷ fs) Q (t + 1) (value.Bool false) _ _ (omega arith) (λ q. let e₁ : t ≡ t + 1 = q in omega arith, off₁)
          (then_by z h _ (LoopEnds z h fs before ended) Q _ _ _ _
          (loop_by z h (λ tabs. Correspond z h tabs before) (LoopEnds z h fs before ended) _ _ (for_turn_block line t item bind bb) refl
          (turn_carried z h fs line t item iterator above l₂ (λ w. assign (source z) w goal) (block (source z) handled body) (tree.append bind bb) (off item l₁ (omega arith)) off₁ (off (t + 2) (omega arith) (omega arith)) (off (t + 3) (omega arith) (omega arith)) (off (t + 3 + 1) (omega arith) (omega arith))
          (λ w. seq_to z h 0 (λ u. known w) (known w) (EndsAs z h 2 (λ u. before) before) _ _ bind bb (passes_to z h 0 2 (λ u. known w) (λ u. before) (known w) before (omega arith) (λ c g y. y.1))
          (ci.carries z (known w) w ((above, apart), side il ih wi.0 wi.1) (λ c g y. y.0))
          (λ u. strengthen z h 2 before (known w) (EndsAs z h 2 (λ u. before) before) _ _ (λ c g y. y.1)
          (cb.carries z before handled (side bl bh wb.0 wb.1) (handles_more caught handled fs before (λ c g y. y.1.1) hd))))))
          (else_after z h fs before ended (t + 1) _ ob (λ c g y. (y.0, y.1.1)) (λ c g y. y) (co.carries z fs handled (outside_less h low (t + 5) ol oh fs wo.0 (omega arith) out) hd))))));
    }
