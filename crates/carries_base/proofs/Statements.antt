-- Statements one after another, branches and loops, carried where their parts are.
use Rattle.std.proofs.Common.{◌≡◌, ◌≢◌, inr, ℕ, zero, suc, ◌+◌, ◌<◌, ◌≤◌, true, false, List, [], ◌∷◌, Option, Some, None, refl, sym, ap, subst, arith}
use Rattle.nu_value.specs.declared.value.Value.{Value}
use Rattle.nu_value.specs.declared.value.Value.TheVariants as value
use Rattle.op_forms.specs.declared.constant.Const.TheVariants as const
use Rattle.op_forms.specs.declared.op.Op.TheVariants as op
use Rattle.nu_rows.specs.Rows.{End, Next, Leave, Raised, Return, Stopped, Undefined, Then}
use Rattle.nu_rows.specs.Words.{on_next, then_value, ends_with}
use Rattle.nu_calls.specs.Calls.{state_of}
use Rattle.code_forms.specs.declared.operand.Argument.TheVariants as argument
use Rattle.code_forms.specs.declared.operand.Operand.{Operand}
use Rattle.code_forms.specs.declared.operand.Operand.TheVariants as operand
use Rattle.node_tree.specs.Blocks.{alone}
use Rattle.node_tree.specs.Blocks as tree
use Rattle.node_tree.specs.Nodes as nodes
use Rattle.py_meaning.specs.Syntax as syntax
use Rattle.py_meaning.specs.Frames as python
use Rattle.py_meaning.specs.Expressions.{expression, truth}
use Rattle.py_meaning.specs.Statements.{statement, block, body_ended, else_behind, while_turn}
use Rattle.carries_base.specs.Frames.{Homes, HaveRoom, local_at, behind, Holds, Facts, Fits, Outside}
use Rattle.carries_base.specs.Carries.{Setting, source, target, S, T, Tables, Correspond, EndsAs, CarriedBy, CarriedTo, Carried, Handles, CarriesExpression, CarriesStatement, CarriesBlock, CarriesTarget}
use Rattle.carries_base.proofs.Homes.{local_bound}
use Rattle.carries_base.specs.Turns.{TurnedEnds}
use Rattle.carries_base.specs.Laws.{if_block, turn_block, while_block, Within}
use Rattle.carries_base.proofs.Facts.{Off, outside_off, outside_home, local_below, outside_less, refit}
use Rattle.carries_base.proofs.Carry.{AllEnds, IsOver, none_by, act_by, then_by, append_by, loop_by}
use Rattle.carries_base.proofs.Sequence.{Passes, Unvalued, strengthen, passes_to, seq_carried, seq_to, then_to, unvalued, one_by, gives_carried}
use Rattle.carries_base.proofs.Operations.{operate_carried}
use Rattle.carries_base.proofs.Control.{EndsLoop, once_by, branch_by, flagged_by, return_by, writes_first}
use Rattle.carries_base.proofs.Small.{within_off}

pub evaluate_carried : (h : Homes) (low high : ℕ) (caught : Option ℕ) (x : syntax.Expression) (b : tree.Block) (o : Operand) → CarriesExpression h low high x b o → CarriesStatement h low high caught (syntax.Evaluate x) (tree.append b tree.Stop)
evaluate_carried h low high caught x b o c = record {
  starts = c.starts;
  grows = c.grows;
  carries = λ z fs handled off hd.
      seq_to z h 0 (λ v. Holds o v ∷ fs) fs (EndsAs z h 2 (λ v. fs) fs) _ _ b tree.Stop (passes_to z h 0 2 (λ v. Holds o v ∷ fs) (λ v. fs) fs fs (omega arith) (λ c g y. y)) (c.carries z fs off)
      (λ v. act_by z h _ (EndsAs z h 2 (λ v. fs) fs) _ _ (λ tabs s t y. (refl, refit z h tabs (Holds o v ∷ fs) fs s t (λ y. y.1) y)));
}

pub block_carried : (h : Homes) (low mid high : ℕ) (caught : Option ℕ) (s : syntax.Statement) (rest : syntax.Block) (b c : tree.Block) → CarriesStatement h low mid caught s b → CarriesBlock h mid high caught rest c → CarriesBlock h low high caught (syntax.Then s rest) (tree.append b c)
block_carried h low mid high caught s rest b c cs cr =
    let l₁ = cs.grows in
    let l₂ = cr.grows in
    record {
      starts = cs.starts;
      grows = omega arith;
      carries = λ z fs handled off hd.
          seq_carried z h 2 (λ v. fs) (λ v. fs) fs _ _ b c (λ v c g y. y) (cs.carries z fs handled (outside_less h low high low mid fs (omega arith) l₂ off) hd)
          (λ v. cr.carries z fs handled (outside_less h low high mid high fs l₁ (omega arith) off) hd);
    }

-- the test of a branch or loop, and what follows its truth value, to any ends
tested : (z : Setting) (h : Homes) (low mid line t : ℕ) (test : syntax.Expression) (tb : tree.Block) (o : Operand) (fs : Facts) (Q : AllEnds) (K : Value → python.R) (last : tree.Block) → CarriesExpression h low mid test tb o → mid ≤ t → Outside h low mid fs → Off t fs → Passes z h 0 (λ v. fs) fs Q → ((v b : Value) → CarriedTo z h Q (Holds (operand.Temp t) b ∷ Holds o v ∷ fs) (K b) (nodes.block_row (target z) last)) → CarriedTo z h Q fs (then_value (expression (source z) test) (λ v. then_value (truth (source z) line v) K)) (nodes.block_row (target z) (tree.append tb (tree.Follow (tree.Do t line op.Truth (argument.Value o ∷ [])) last)))
tested z h low mid line t test tb o fs Q K last ct le off offt pass next =
    let l₁ = ct.grows in
    let l₂ = ct.starts in
    let above : behind h ≤ t = omega arith in
    seq_to z h 0 (λ v. Holds o v ∷ fs) fs Q _ _ tb _ (λ tabs e s e' t over x. over_pass z h fs Q (λ v. Holds o v ∷ fs) pass tabs e s e' t over x) (ct.carries z fs off)
    (λ v. then_to z h 0 (λ b. Holds (operand.Temp t) b ∷ Holds o v ∷ fs) (Holds o v ∷ fs) Q _ _ K _
    (λ tabs e s e' u over x. over_less z h (Holds o v ∷ fs) fs Q (λ b. Holds (operand.Temp t) b ∷ Holds o v ∷ fs) (λ c g y. y.1) pass tabs e s e' u over x)
    (operate_carried z h 0 (Holds o v ∷ fs) line op.Truth (v ∷ []) t (argument.Value o ∷ []) above (within_off low mid t o v fs ct.within le offt) (λ c g y. ap (λ u. nodes.both u (Some [])) y.0))
    (λ b. next v b))
  where
    over_less : (z : Setting) (h : Homes) (gs fs : Facts) (Q : AllEnds) (m : Value → Facts) → ((c : Value) (g : nodes.Frame) → Fits gs c g → Fits fs c g) → Passes z h 0 (λ v. fs) fs Q → (tabs : Tables) (e : End) (s : S) (e' : End) (t : T) → IsOver e → EndsAs z h 0 m gs tabs e s e' t → Q tabs e s e' t
    over_less z h gs fs Q m f pass tabs e s e' t over x = pass tabs e s e' t over (passes_to z h 0 0 m (λ v. fs) gs fs (omega arith) f tabs e s e' t over x)

    over_pass : (z : Setting) (h : Homes) (fs : Facts) (Q : AllEnds) (m : Value → Facts) → Passes z h 0 (λ v. fs) fs Q → (tabs : Tables) (e : End) (s : S) (e' : End) (t : T) → IsOver e → EndsAs z h 0 m fs tabs e s e' t → Q tabs e s e' t
    over_pass z h fs Q m pass tabs e s e' t over x = over_less z h fs fs Q m (λ c g y. y) pass tabs e s e' t over x

pub if_carried : (h : Homes) (low high tl th bl bh ol oh line : ℕ) (caught : Option ℕ) (test : syntax.Expression) (body other : syntax.Block) (tb bb ob : tree.Block) (o : Operand) → behind h ≤ low → Within low high tl th → Within low high bl bh → Within low high ol oh → CarriesExpression h tl th test tb o → CarriesBlock h bl bh caught body bb → CarriesBlock h ol oh caught other ob → CarriesStatement h low (high + 1) caught (syntax.If line test body other) (if_block line high tb o bb ob)
if_carried h low high tl th bl bh ol oh line caught test body other tb bb ob o st wt wb wo ct cb co =
    let l₁ = ct.grows in
    let l₂ = wt.0 in
    let l₃ = wt.1 in
    let l₄ = wb.1 in
    let l₅ = wo.1 in
    record {
      starts = st;
      grows = omega arith;
      carries = λ z fs handled off hd.
          let Q : AllEnds = EndsAs z h 2 (λ v. fs) fs in
          tested z h tl th line high test tb o fs Q _ _ ct wt.1 (outside_less h low (high + 1) tl th fs wt.0 (omega arith) off) (outside_off h low (high + 1) high fs (omega arith) (omega arith) off) (passes_to z h 0 2 (λ v. fs) (λ v. fs) fs fs (omega arith) (λ c g y. y))
          (λ v b. one_by z h 2 _ Q _ _ (unvalued z h 2 (λ v. fs) fs)
          (branch_by z h _ Q (operand.Temp high) b _ _ bb ob (λ tabs s t y. y.frames.facts.0) (λ tabs s t y. tt)
          (strengthen z h 2 fs (Holds (operand.Temp high) b ∷ Holds o v ∷ fs) Q _ _ (λ c g y. y.1.1) (cb.carries z fs handled (outside_less h low (high + 1) bl bh fs wb.0 (omega arith) off) hd))
          (strengthen z h 2 fs (Holds (operand.Temp high) b ∷ Holds o v ∷ fs) Q _ _ (λ c g y. y.1.1) (co.carries z fs handled (outside_less h low (high + 1) ol oh fs wo.0 (omega arith) off) hd))));
    }

-- Loops

module _ (z : Setting) (h : Homes) (fs gs ts : Facts) where
  -- the ends of a loop: by itself or by `break`, or since its test fails, which leads to `else`
  abbrev LoopEnds : AllEnds
  LoopEnds tabs (Next v) s (Next w) t = Correspond z h tabs gs s t
  LoopEnds tabs (Leave zero) s (Next w) t = Correspond z h tabs ts s t
  LoopEnds tabs (Raised x) s (Raised y) t = (x ≡ y) × Correspond z h tabs fs s t
  LoopEnds tabs (Return v) s (Return w) t = (v ≡ w) × Correspond z h tabs fs s t
  LoopEnds tabs (Stopped i) s (Stopped j) t = i ≡ j
  LoopEnds tabs Undefined s Undefined t = Unit {0}
  LoopEnds tabs e s e' t = ⊥

  abbrev TurnAs : AllEnds
  TurnAs tabs = TurnedEnds (Correspond z h tabs gs) (LoopEnds tabs)

  -- the ends of a body in the loop of its own, and before it
  abbrev BodyAs : AllEnds
  BodyAs tabs (Next v) s (Leave zero) t = Correspond z h tabs gs s t
  BodyAs tabs (Leave zero) s (Leave (suc zero)) t = Correspond z h tabs gs s t
  BodyAs tabs (Raised x) s (Raised y) t = (x ≡ y) × Correspond z h tabs fs s t
  BodyAs tabs (Return v) s (Return w) t = (v ≡ w) × Correspond z h tabs fs s t
  BodyAs tabs (Stopped i) s (Stopped j) t = i ≡ j
  BodyAs tabs Undefined s Undefined t = Unit {0}
  BodyAs tabs e s e' t = ⊥

  body_done : EndsLoop z h BodyAs TurnAs
  body_done tabs (Next v) s (Leave zero) t x = (Next value.None, refl, x)
  body_done tabs (Leave zero) s (Leave (suc zero)) t x = (Leave zero, refl, x)
  body_done tabs (Raised i) s (Raised j) t x = (Raised j, refl, x)
  body_done tabs (Return i) s (Return j) t x = (Return j, refl, x)
  body_done tabs (Stopped i) s (Stopped j) t x = (Stopped j, refl, x)
  body_done tabs Undefined s Undefined t x = (Undefined, refl, x)
  body_done tabs e s e' t x = absurd x

  module _ (less : (c : Value) (g : nodes.Frame) → Fits gs c g → Fits fs c g) where
    shed : (tabs : Tables) (s : S) (t : T) → Correspond z h tabs gs s t → Correspond z h tabs fs s t
    shed tabs s t x = refit z h tabs gs fs s t (less s.frame.carried t.frame) x

    -- the body, and a leave of its own loop
    body_next : (e e' : End) → CarriedBy z h (λ tabs s t. EndsAs z h 2 (λ v. gs) gs tabs e s e' t) BodyAs (body_ended e) (on_next (λ w. nodes.block_row (target z) (alone (tree.Leave 1))) e')
    body_next (Next v) (Next w) = one_by z h 2 _ BodyAs _ _ un (act_by z h _ BodyAs _ _ (λ tabs s t x. (refl, x)))
      where
        un : Unvalued z h 2 BodyAs
        un tabs e s v w t x = absurd (no_next tabs e s v t x)
          where
            no_next : (tabs : Tables) (e : End) (s : S) (v : Value) (t : T) → ¬ BodyAs tabs e s (Next v) t
            no_next tabs (Next v) s w t x = x
            no_next tabs (Leave zero) s w t x = x
            no_next tabs (Leave (suc i)) s w t x = x
            no_next tabs (Raised v) s w t x = x
            no_next tabs (Return v) s w t x = x
            no_next tabs (Stopped v) s w t x = x
            no_next tabs Undefined s w t x = x
    body_next (Leave zero) (Leave zero) = act_by z h _ BodyAs _ _ (λ tabs s t x. (refl, x.2))
    body_next (Leave zero) (Leave (suc j)) = none_by z h _ BodyAs _ _ (λ tabs s t x. let e : 0 ≡ suc j = x.0 in absurd (omega arith))
    body_next (Leave (suc zero)) (Leave zero) = none_by z h _ BodyAs _ _ (λ tabs s t x. let e : 1 ≡ 0 = x.0 in absurd (omega arith))
    body_next (Leave (suc zero)) (Leave (suc zero)) = act_by z h _ BodyAs _ _ (λ tabs s t x. (refl, x.2))
    body_next (Leave (suc zero)) (Leave (suc (suc j))) = none_by z h _ BodyAs _ _ (λ tabs s t x. let e : 1 ≡ suc (suc j) = x.0 in absurd (omega arith))
    body_next (Leave (suc (suc i))) (Leave j) = none_by z h _ BodyAs _ _ (λ tabs s t x. let l : suc (suc i) < 2 = x.1 in absurd (omega arith))
    body_next (Raised v) (Raised w) = act_by z h _ BodyAs _ _ (λ tabs s t x. (refl, (x.0, shed tabs s t x.1)))
    body_next (Return v) (Return w) = act_by z h _ BodyAs _ _ (λ tabs s t x. (refl, (x.0, shed tabs s t x.1)))
    body_next (Stopped v) (Stopped w) = act_by z h _ BodyAs _ _ (λ tabs s t x. (refl, x))
    body_next Undefined Undefined = act_by z h _ BodyAs _ _ (λ tabs s t x. (refl, tt))
    body_next e e' = none_by z h _ BodyAs _ _ (λ tabs s t x. x)

    body_in_loop : (r : python.R) (b : tree.Block) → Carried z h 2 (λ v. gs) gs r (nodes.block_row (target z) b) → CarriedTo z h TurnAs gs (Then r body_ended) (nodes.form_row (target z) (tree.Loop (tree.append b (alone (tree.Leave 1)))))
    body_in_loop r b x = once_by z h _ BodyAs TurnAs _ (tree.append b (alone (tree.Leave 1))) body_done
        (append_by z h _ BodyAs _ b (alone (tree.Leave 1)) (then_by z h _ (EndsAs z h 2 (λ v. gs) gs) BodyAs r _ body_ended _ x body_next))

    -- the ends of a test pass
    test_passes : Passes z h 0 (λ v. gs) gs TurnAs
    test_passes tabs (Next v) s (Next w) t over x = absurd over
    test_passes tabs (Leave i) s (Leave j) t over x = let l : i < 0 = x.1 in absurd (omega arith)
    test_passes tabs (Raised v) s (Raised w) t over x = (x.0, shed tabs s t x.1)
    test_passes tabs (Return v) s (Return w) t over x = (x.0, shed tabs s t x.1)
    test_passes tabs (Stopped v) s (Stopped w) t over x = x
    test_passes tabs Undefined s Undefined t over x = tt
    test_passes tabs e s e' t over x = absurd x

  turn_unvalued : Unvalued z h 2 TurnAs
  turn_unvalued tabs (Next u) s v w t x = x
  turn_unvalued tabs (Leave zero) s v w t x = x
  turn_unvalued tabs (Leave (suc u)) s v w t x = x
  turn_unvalued tabs (Raised u) s v w t x = x
  turn_unvalued tabs (Return u) s v w t x = x
  turn_unvalued tabs (Stopped u) s v w t x = x
  turn_unvalued tabs Undefined s v w t x = x

while_after : (z : Setting) (h : Homes) (fs : Facts) (d : ℕ) (other : python.R) (ob : tree.Block) → Carried z h 2 (λ v. fs) fs other (nodes.block_row (target z) ob) → (e e' : End) → CarriedBy z h (λ tabs s t. LoopEnds z h fs (Holds (operand.Temp d) (value.Bool false) ∷ fs) (Holds (operand.Temp d) (value.Bool true) ∷ fs) tabs e s e' t) (EndsAs z h 2 (λ v. fs) fs) (else_behind other e) (on_next (λ w. nodes.block_row (target z) (alone (tree.If (operand.Temp d) ob tree.Stop))) e')
while_after z h fs d other ob x (Next v) (Next w) =
    one_by z h 2 _ (EndsAs z h 2 (λ v. fs) fs) _ _ (unvalued z h 2 (λ v. fs) fs)
    (flagged_by z h _ (EndsAs z h 2 (λ v. fs) fs) (operand.Temp d) false _ ob tree.Stop (λ tabs s t y. y.frames.facts.0)
    (act_by z h _ (EndsAs z h 2 (λ v. fs) fs) _ _ (λ tabs s t y. (refl, refit z h tabs _ fs s t (λ q. q.1) y))))
while_after z h fs d other ob x (Leave zero) (Next w) =
    one_by z h 2 _ (EndsAs z h 2 (λ v. fs) fs) _ _ (unvalued z h 2 (λ v. fs) fs)
    (flagged_by z h _ (EndsAs z h 2 (λ v. fs) fs) (operand.Temp d) true _ ob tree.Stop (λ tabs s t y. y.frames.facts.0)
    (strengthen z h 2 fs (Holds (operand.Temp d) (value.Bool true) ∷ fs) (EndsAs z h 2 (λ v. fs) fs) _ _ (λ c g q. q.1) x))
while_after z h fs d other ob x (Raised v) (Raised w) = act_by z h _ (EndsAs z h 2 (λ v. fs) fs) _ _ (λ tabs s t y. (refl, y))
while_after z h fs d other ob x (Return v) (Return w) = act_by z h _ (EndsAs z h 2 (λ v. fs) fs) _ _ (λ tabs s t y. (refl, y))
while_after z h fs d other ob x (Stopped v) (Stopped w) = act_by z h _ (EndsAs z h 2 (λ v. fs) fs) _ _ (λ tabs s t y. (refl, y))
while_after z h fs d other ob x Undefined Undefined = act_by z h _ (EndsAs z h 2 (λ v. fs) fs) _ _ (λ tabs s t y. (refl, y))
while_after z h fs d other ob x e e' = none_by z h _ (EndsAs z h 2 (λ v. fs) fs) _ _ (λ tabs s t y. y)

pub while_carried : (h : Homes) (low m₃ tl th bl bh ol oh line : ℕ) (caught : Option ℕ) (test : syntax.Expression) (body other : syntax.Block) (tb bb ob : tree.Block) (o : Operand) → behind h ≤ low → Within low m₃ tl th → Within low m₃ bl bh → Within low m₃ ol oh → CarriesExpression h tl th test tb o → CarriesBlock h bl bh caught body bb → CarriesBlock h ol oh caught other ob → CarriesStatement h low (m₃ + 1 + 1) caught (syntax.While line test body other) (while_block line m₃ (m₃ + 1) tb o bb ob)
while_carried h low m₃ tl th bl bh ol oh line caught test body other tb bb ob o st wt wb wo ct cb co =
    let l₁ = ct.grows in
    let l₂ = wt.0 in
    let l₃ = wt.1 in
    let l₄ = wb.1 in
    let l₅ = wo.1 in
    let high : ℕ = m₃ + 1 + 1 in
    let above : behind h ≤ m₃ = omega arith in
    let same : m₃ ≢ m₃ + 1 = (λ e. let e₁ : m₃ ≡ m₃ + 1 = e in omega arith) in
    record {
      starts = st;
      grows = omega arith;
      carries = λ z fs handled off hd.
          let Q : AllEnds = EndsAs z h 2 (λ v. fs) fs in
          let gs : Facts = Holds (operand.Temp m₃) (value.Bool false) ∷ fs in
          let ts : Facts = Holds (operand.Temp m₃) (value.Bool true) ∷ fs in
          let off₃ : Off m₃ fs = outside_off h low high m₃ fs (omega arith) (omega arith) off in
          let off₄ : Off (m₃ + 1) fs = outside_off h low high (m₃ + 1) fs (omega arith) (omega arith) off in
          let side : (a b : ℕ) → low ≤ a → b ≤ m₃ → Outside h a b gs = (λ a b la lb. ((above, inr lb), outside_less h low high a b fs la (omega arith) off)) in
          let turn : CarriedTo z h (TurnAs z h fs gs ts) gs (while_turn (source z) line (expression (source z) test) (block (source z) handled body)) (nodes.block_row (target z) (turn_block line m₃ (m₃ + 1) tb o bb)) =
          tested z h tl th line (m₃ + 1) test tb o gs (TurnAs z h fs gs ts) _ _ ct (omega arith) (side tl th wt.0 wt.1) (same, off₄) (test_passes z h fs gs ts (λ c g y. y.1))
          (λ v b. one_by z h 2 _ (TurnAs z h fs gs ts) _ _ (turn_unvalued z h fs gs ts)
          (branch_by z h _ (TurnAs z h fs gs ts) (operand.Temp (m₃ + 1)) b _ _ (alone (tree.Loop (tree.append bb (alone (tree.Leave 1))))) (tree.Follow (tree.Constant m₃ (const.Bool true)) (alone (tree.Leave 1))) (λ tabs s t y. y.frames.facts.0) (λ tabs s t y. tt)
          (one_by z h 2 _ (TurnAs z h fs gs ts) _ _ (turn_unvalued z h fs gs ts)
          (strengthen z h 2 gs (Holds (operand.Temp (m₃ + 1)) b ∷ Holds o v ∷ gs) (TurnAs z h fs gs ts) _ _ (λ c g y. y.1.1)
          (body_in_loop z h fs gs ts (λ c g y. y.1) _ bb (cb.carries z gs handled (side bl bh wb.0 wb.1) (handles_more caught handled fs hd)))))
          (strengthen z h 2 fs (Holds (operand.Temp (m₃ + 1)) b ∷ Holds o v ∷ gs) (TurnAs z h fs gs ts) _ _ (λ c g y. y.1.1.1)
          (writes_first z h fs (TurnAs z h fs gs ts) m₃ (value.Bool true) _ _ above off₃
          (one_by z h 2 _ (TurnAs z h fs gs ts) _ _ (turn_unvalued z h fs gs ts) (act_by z h _ (TurnAs z h fs gs ts) _ (λ t. record { out = []; state = t; end = Leave 0 }) (λ tabs s t y. (refl, y)))))))) in
          writes_first z h fs Q m₃ (value.Bool false) _ _ above off₃
          (then_by z h _ (LoopEnds z h fs gs ts) Q _ _ _ _
          (loop_by z h (λ tabs. Correspond z h tabs gs) (LoopEnds z h fs gs ts) _ _ (turn_block line m₃ (m₃ + 1) tb o bb) refl turn)
          (while_after z h fs m₃ _ ob (co.carries z fs handled (outside_less h low high ol oh fs wo.0 (omega arith) off) hd)));
    }
  where
    handles_more : (caught handled : Option ℕ) (fs : Facts) → Handles fs caught handled → Handles (Holds (operand.Temp m₃) (value.Bool false) ∷ fs) caught handled
    handles_more None None fs x = tt
    handles_more None (Some y) fs x = x
    handles_more (Some t) None fs x = x
    handles_more (Some t) (Some y) fs x = (λ c g q. x c g q.1)

-- no statement
pub done_carried : (h : Homes) (low high : ℕ) (caught : Option ℕ) → behind h ≤ low → low ≤ high → CarriesBlock h low high caught syntax.Done tree.Stop
done_carried h low high caught st le = record {
  starts = st;
  grows = le;
  carries = λ z fs handled off hd. gives_carried z h 2 (λ v. fs) fs value.None (λ c g x. x);
}

-- `pass`
pub pass_carried : (h : Homes) (low high : ℕ) (caught : Option ℕ) → behind h ≤ low → low ≤ high → CarriesStatement h low high caught syntax.Pass tree.Stop
pass_carried h low high caught st le = record {
  starts = st;
  grows = le;
  carries = λ z fs handled off hd. gives_carried z h 2 (λ v. fs) fs value.None (λ c g x. x);
}

-- Statements that end at once, and a local variable that is bound

pub leave_carried : (h : Homes) (low i : ℕ) (caught : Option ℕ) (s : syntax.Statement) → behind h ≤ low → i < 2 → ((l : python.L) (handled : Option ℕ) → statement l handled s ≡ ends_with (Leave i)) → CarriesStatement h low low caught s (alone (tree.Leave (suc i)))
leave_carried h low i caught s le l is = record {
  starts = le;
  grows = omega arith;
  carries = λ z fs handled off hd.
      let Q : AllEnds = EndsAs z h 2 (λ v. fs) fs in
      subst (λ r. CarriedTo z h Q fs r (nodes.block_row (target z) (alone (tree.Leave (suc i))))) (sym (is (source z) handled))
      (one_by z h 2 _ Q _ _ (unvalued z h 2 (λ v. fs) fs) (act_by z h _ Q _ (λ t. record { out = []; state = t; end = Leave i }) (λ tabs s t x. (refl, (refl, l, x)))));
}

pub return_carried : (h : Homes) (low high : ℕ) (caught : Option ℕ) (x : syntax.Expression) (b : tree.Block) (o : Operand) → CarriesExpression h low high x b o → CarriesStatement h low high caught (syntax.Return x) (tree.append b (alone (tree.Return o)))
return_carried h low high caught x b o c = record {
  starts = c.starts;
  grows = c.grows;
  carries = λ z fs handled off hd.
      let Q : AllEnds = EndsAs z h 2 (λ v. fs) fs in
      seq_to z h 0 (λ v. Holds o v ∷ fs) fs Q _ _ b _ (passes_to z h 0 2 (λ v. Holds o v ∷ fs) (λ v. fs) fs fs (omega arith) (λ c g y. y)) (c.carries z fs off)
      (λ v. one_by z h 2 _ Q _ _ (unvalued z h 2 (λ v. fs) fs)
      (return_by z h _ Q o v (λ tabs s t y. y.frames.facts.0) (λ tabs s t y. (refl, refit z h tabs (Holds o v ∷ fs) fs s t (λ q. q.1) y))));
}

-- from a temporary that holds the value
pub local_target_carried : (h : Homes) (low line place temp : ℕ) (name : List ℕ) → HaveRoom h → behind h ≤ low → place < h.filled → CarriesTarget h low low (operand.Temp temp) (syntax.ToName line (syntax.Local place name)) (alone (tree.Copy (local_at h place) temp))
local_target_carried h low line place temp name room le inside =
    let filled = room.filled in
    record {
      starts = le;
      grows = omega arith;
      carries = λ z fs v off known.
          let Q : AllEnds = EndsAs z h 0 (λ w. fs) fs in
          let home : Off (local_at h place) fs = outside_home h low low (local_at h place) fs (local_below h place room (omega arith)) off in
          one_by z h 0 _ Q _ _ (unvalued z h 0 (λ w. fs) fs)
          (act_by z h _ Q _ _ (λ tabs s t x. let e : t.frame.temps temp ≡ Some v = known s.frame.carried t.frame x.frames.facts in
          subst (λ u. ([] ≡ (nodes.copied t (local_at h place) u).out) × Q tabs (Next value.None) (state_of (python.with_local place v s.frame) s.around) (nodes.copied t (local_at h place) u).end (nodes.copied t (local_at h place) u).state) (sym e)
          (refl, local_bound z h tabs place v fs s t inside home x)));
    }
