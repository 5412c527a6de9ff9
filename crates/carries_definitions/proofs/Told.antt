-- What follows a value sent, or an exception thrown, where `is` tells what is None.
use Rattle.std.proofs.Common.{◌≡◌, ℕ, ◌+◌, ◌<◌, ◌≤◌, false, true, List, [], ◌∷◌, Some, codes, refl, sym, ap, ◌∙◌, subst, arith}
use Rattle.nu_value.specs.declared.value.Value.{Value}
use Rattle.nu_value.specs.declared.value.Value.TheVariants as value
use Rattle.op_forms.specs.declared.op.Op.{Op}
use Rattle.op_forms.specs.declared.op.Op.TheVariants as op
use Rattle.nu_calls.specs.Calls.{operate}
use Rattle.code_forms.specs.declared.operand.Argument.{Argument}
use Rattle.code_forms.specs.declared.operand.Argument.TheVariants as argument
use Rattle.code_forms.specs.declared.operand.Operand.TheVariants as operand
use Rattle.node_tree.specs.Blocks.{alone, of_temp}
use Rattle.node_tree.specs.Blocks as tree
use Rattle.node_tree.specs.Nodes as nodes
use Rattle.py_meaning.specs.Frames as python
use Rattle.py_meaning.specs.Expressions.{delegated, resumes, raise_again, told}
use Rattle.carries_base.specs.Frames.{Homes, behind, Holds, Keeps, Facts, Fits, Outside}
use Rattle.carries_base.specs.Carries.{Setting, source, target, Correspond, CarriedTo, Knows}
use Rattle.carries_base.proofs.Facts.{Off, outside_off, fresh, refit}
use Rattle.carries_base.proofs.Carry.{AllEnds, Midway, act_by, left_by, right_by}
use Rattle.carries_base.proofs.Sequence.{weaken, lessen, then_carried, seq_to, one_by, one_carried}
use Rattle.carries_base.proofs.Operations.{operate_carried}
use Rattle.carries_base.proofs.Control.{branch_by, writes_first}
use Rattle.carries_names.proofs.Functions.{Extends}
use Rattle.carries_control.specs.Raises.{stopped_block}
use Rattle.carries_control.specs.Finish.{none}
use Rattle.carries_control.proofs.Steps.{passed, do_then}
use Rattle.carries_control.proofs.Again.{again_by, stopped_by}
use Rattle.carries_control.proofs.Attempts.{attempted, attempt_then}
use Rattle.carries_definitions.proofs.Sent.{BeforeTurn, DelegateTurns, CarriesSent, CarriesThrown}
use Rattle.carries_definitions.specs.Told.{resumed_block, told_block, again_block, sent_block, closed_block, threw_block, thrown_block}
use Rattle.carries_control.proofs.Loops.{stopped_exits}
use Rattle.carries_definitions.proofs.Turned.{exit_pass}
use Rattle.carries_definitions.proofs.Between.{fits_carried, carries_as, turn_unvalued, turn_passing}

module _ (z : Setting) (h : Homes) (fs : Facts) (line t high : ℕ) (iterator : Value) (above : behind h ≤ t) (out : Outside h t high fs) (room : t + 8 ≤ high) where
  abbrev Q : AllEnds
  Q = DelegateTurns z h t iterator fs

  abbrev Inside : Facts
  Inside = Holds (operand.Temp t) iterator ∷ fs

  off : (d : ℕ) → t ≤ d → d < high → Off d fs
  off d a b = outside_off h t high d fs a b out

  inside_off : (d : ℕ) → t < d → d < high → Off d Inside
  inside_off d a b = (λ q. let e₁ : t ≡ d = q in omega arith, off d (omega arith) b)

  -- the loop ends, and its exception is carried
  delegated_by : (e : ℕ) (gs : Facts) → Extends gs fs → Knows gs (operand.Temp (t + 3)) (value.Obj e) → CarriedTo z h Q gs (delegated e) (nodes.block_row (target z) (tree.Follow (tree.Copy (t + 1) (t + 3)) (alone (tree.Leave 1))))
  delegated_by e gs more known =
      let held : Facts = Keeps (t + 3) ∷ fs in
      let kept : Facts = Keeps (t + 1) ∷ fs in
      left_by z h _ (λ v tabs. Correspond z h tabs held) Q _ _ _
      (λ tabs s u y. (refl, carries_as z h tabs gs held (value.Obj e) s u (λ q. (known s.frame.carried u.frame q, fits_carried h t high fs s.frame.carried (value.Obj e) u.frame out (more s.frame.carried u.frame q))) y))
      (λ v. right_by z h _ (λ w tabs. Correspond z h tabs kept) Q _ _ (λ w. nodes.block_row (target z) (alone (tree.Leave 1)))
      (λ tabs s u y. subst (λ o. ((nodes.copied u (t + 1) o).out ≡ []) × Midway z h (λ w tabs. Correspond z h tabs kept) tabs (nodes.copied u (t + 1) o).end s (nodes.copied u (t + 1) o).state) (sym y.frames.facts.0) (
        refl,
        refit z h tabs (Holds (operand.Temp (t + 1)) s.frame.carried ∷ held) kept s (nodes.writes u (t + 1) s.frame.carried) (λ q. (q.0, q.1.1))
            (fresh z h tabs held (t + 1) s.frame.carried s.frame.carried s u refl (omega arith) (λ q. let e₁ : t + 3 ≡ t + 1 = q in omega arith, off (t + 1) (omega arith) (omega arith)) y),
      ))
      (λ w. one_by z h 0 _ Q _ _ (turn_unvalued z h t iterator fs) (act_by z h _ Q _ _ (λ tabs s u y. (refl, y)))))

  -- an operation on the inner iterator, from where more is known
  resumed_by : (gs : Facts) (o : Op) (vs : List Value) (args : List Argument) → Extends gs Inside → Off (t + 1) gs → Off (t + 2) gs → ((c : Value) (g : nodes.Frame) → Fits gs c g → nodes.values g args ≡ Some vs) → CarriedTo z h Q gs (resumes (source z) line (operate (source z) line o vs)) (nodes.block_row (target z) (resumed_block line t o args))
  resumed_by gs o vs args more off₁ off₂ known =
      let ready : Facts = Holds (operand.Temp (t + 2)) (value.Bool false) ∷ gs in
      let k : Value → Facts = λ w. Holds (operand.Temp (t + 1)) w ∷ ready in
      writes_first z h gs Q (t + 2) (value.Bool false) _ _ (omega arith) off₂
      (attempt_then z h 0 k fs (t + 3) (t + 2) Q (turn_unvalued z h t iterator fs) _ (stopped_block line (t + 3) (t + 5) (tree.Follow (tree.Copy (t + 1) (t + 3)) (alone (tree.Leave 1)))) tree.Stop (stopped_exits (source z) line _ _) (exit_pass z h k fs (t + 3) (t + 2) Q (turn_passing z h t iterator fs))
      (λ w c g y. y.1.0)
      (λ w. act_by z h _ Q _ _ (λ tabs s u y. (refl, carries_as z h tabs (k w) (BeforeTurn t iterator fs) w s u (λ q. let i = more s.frame.carried u.frame q.1.1 in (q.0, (i.0, fits_carried h t high fs s.frame.carried w u.frame out i.1))) y)))
      (λ e. let es : Facts = Holds (operand.Temp (t + 2)) (value.Bool true) ∷ Holds (operand.Temp (t + 3)) (value.Obj e) ∷ fs in
      let es_off : (d : ℕ) → t + 3 < d → d < t + 8 → Off d es = (λ d a b. (λ q. let e₁ : t + 2 ≡ d = q in omega arith, (λ q. let e₁ : t + 3 ≡ d = q in omega arith, off d (omega arith) (omega arith)))) in
      stopped_by z h fs Q (turn_passing z h t iterator fs) (turn_unvalued z h t iterator fs) es line (t + 3) (t + 5) e delegated (tree.Follow (tree.Copy (t + 1) (t + 3)) (alone (tree.Leave 1))) (λ c g y. y.1.1) (omega arith) (es_off (t + 5) (omega arith) (omega arith)) (es_off (t + 5 + 1) (omega arith) (omega arith)) (λ c g y. y.1.0)
      (delegated_by e es (λ c g y. y.1.1) (λ c g y. y.1.0)))
      ready _ _
      (attempted z h 0 k fs (t + 3) (t + 2) ready _ (alone (tree.Do (t + 1) line o args)) (omega arith) (omega arith) (λ q. let e₁ : t + 3 ≡ t + 2 = q in omega arith) (off (t + 3) (omega arith) (omega arith)) (off (t + 2) (omega arith) (omega arith))
      (lessen z h 0 k k fs ready _ _ (λ w c g y. y) (λ c g y. (more c g y.1).1)
      (one_carried z h 0 k ready _ _
      (operate_carried z h 0 ready line o vs (t + 1) args (omega arith) (λ q. let e₁ : t + 2 ≡ t + 1 = q in omega arith, off₁) (λ c g y. known c g y.1))))))

  -- one block or another, by whether a temporary holds None
  told_by : (gs : Facts) (temp to : ℕ) (v : Value) (r₁ r₂ : python.R) (y n : tree.Block) → Extends gs fs → behind h ≤ to → Off to gs → Knows gs (operand.Temp temp) v → ((b : Value) → CarriedTo z h Q (Holds (operand.Temp to) b ∷ gs) r₁ (nodes.block_row (target z) y)) → ((b : Value) → CarriedTo z h Q (Holds (operand.Temp to) b ∷ gs) r₂ (nodes.block_row (target z) n)) → CarriedTo z h Q gs (told (source z) line v r₁ r₂) (nodes.block_row (target z) (told_block line temp to y n))
  told_by gs temp to v r₁ r₂ y n more le off_to known hy hn =
      do_then z h fs Q (turn_passing z h t iterator fs) gs line to op.Is (v ∷ value.None ∷ []) (of_temp temp ∷ none ∷ []) _ _ more le off_to (λ c g q. ap (λ u. nodes.both u (Some (value.None ∷ []))) (known c g q))
      (λ b. one_by z h 0 _ Q _ _ (turn_unvalued z h t iterator fs)
      (branch_by z h _ Q (operand.Temp to) b r₁ r₂ y n (λ tabs s u q. q.frames.facts.0) (λ tabs s u q. tt) (hy b) (hn b)))

  raised_by : (gs : Facts) (x : ℕ) → Extends gs fs → Knows gs (operand.Temp (t + 3)) (value.Obj x) → CarriedTo z h Q gs (raise_again x) (nodes.block_row (target z) (again_block t))
  raised_by gs x more known = one_by z h 0 _ Q _ _ (turn_unvalued z h t iterator fs) (again_by z h fs Q (turn_passing z h t iterator fs) gs (t + 3) x more known)

pub sent_carried : (h : Homes) (t line : ℕ) → behind h ≤ t → CarriesSent h t (t + 10) t line (sent_block line t)
sent_carried h t line above z fs iterator v out =
    let f₀ : Facts = Holds (operand.Temp (t + 4)) v ∷ Holds (operand.Temp t) iterator ∷ fs in
    let f₀_off : (d : ℕ) → t < d → d < t + 10 → ¬ (t + 4 ≡ d) → Off d f₀ = (λ d a b ne. (ne, inside_off z h fs line t (t + 10) iterator above out (omega arith) d a b)) in
    told_by z h fs line t (t + 10) iterator above out (omega arith) f₀ (t + 4) (t + 8) v _ _ (resumed_block line t op.Next (of_temp t ∷ [])) (tree.Follow (tree.Do (t + 9) line op.Attr (of_temp t ∷ argument.Name (codes "send") ∷ [])) (resumed_block line t op.Call (of_temp (t + 9) ∷ of_temp (t + 4) ∷ []))) (λ c g y. y.1.1) (omega arith) (f₀_off (t + 8) (omega arith) (omega arith) (λ q. let e₁ : t + 4 ≡ t + 8 = q in omega arith)) (λ c g y. y.0)
    (λ b. resumed_by z h fs line t (t + 10) iterator above out (omega arith) (Holds (operand.Temp (t + 8)) b ∷ f₀) op.Next (iterator ∷ []) (of_temp t ∷ []) (λ c g y. y.1.1)
    (λ q. let e₁ : t + 8 ≡ t + 1 = q in omega arith, f₀_off (t + 1) (omega arith) (omega arith) (λ q. let e₁ : t + 4 ≡ t + 1 = q in omega arith))
    (λ q. let e₁ : t + 8 ≡ t + 2 = q in omega arith, f₀_off (t + 2) (omega arith) (omega arith) (λ q. let e₁ : t + 4 ≡ t + 2 = q in omega arith))
    (λ c g y. ap (λ u. nodes.both u (Some [])) y.1.1.0))
    (λ b. let f₁ : Facts = Holds (operand.Temp (t + 8)) b ∷ f₀ in
    do_then z h fs (DelegateTurns z h t iterator fs) (turn_passing z h t iterator fs) f₁ line (t + 9) op.Attr (iterator ∷ python.text (codes "send") ∷ []) (of_temp t ∷ argument.Name (codes "send") ∷ []) _ _ (λ c g y. y.1.1.1) (omega arith)
    (λ q. let e₁ : t + 8 ≡ t + 9 = q in omega arith, f₀_off (t + 9) (omega arith) (omega arith) (λ q. let e₁ : t + 4 ≡ t + 9 = q in omega arith))
    (λ c g y. ap (λ u. nodes.both u (Some (python.text (codes "send") ∷ []))) y.1.1.0)
    (λ send. resumed_by z h fs line t (t + 10) iterator above out (omega arith) (Holds (operand.Temp (t + 9)) send ∷ f₁) op.Call (send ∷ v ∷ []) (of_temp (t + 9) ∷ of_temp (t + 4) ∷ []) (λ c g y. y.1.1.1)
    (λ q. let e₁ : t + 9 ≡ t + 1 = q in omega arith, (λ q. let e₁ : t + 8 ≡ t + 1 = q in omega arith, f₀_off (t + 1) (omega arith) (omega arith) (λ q. let e₁ : t + 4 ≡ t + 1 = q in omega arith)))
    (λ q. let e₁ : t + 9 ≡ t + 2 = q in omega arith, (λ q. let e₁ : t + 8 ≡ t + 2 = q in omega arith, f₀_off (t + 2) (omega arith) (omega arith) (λ q. let e₁ : t + 4 ≡ t + 2 = q in omega arith)))
    (λ c g y. ap (λ u. nodes.both u (nodes.both (g.temps (t + 4)) (Some []))) y.0 ∙ ap (λ u. nodes.both (Some send) (nodes.both u (Some []))) y.1.1.0)))

pub thrown_carried : (h : Homes) (t line : ℕ) → behind h ≤ t → CarriesThrown h t (t + 13) t line (thrown_block line t)
thrown_carried h t line above z fs iterator x out =
    let Q : AllEnds = DelegateTurns z h t iterator fs in
    let pass = turn_passing z h t iterator fs in
    let f₀ : Facts = Holds (operand.Temp (t + 3)) (value.Obj x) ∷ Holds (operand.Temp t) iterator ∷ fs in
    let f₀_off : (d : ℕ) → t < d → d < t + 13 → ¬ (t + 3 ≡ d) → Off d f₀ = (λ d a b ne. (ne, inside_off z h fs line t (t + 13) iterator above out (omega arith) d a b)) in
    let far_off : (d : ℕ) → t + 3 < d → d < t + 13 → Off d f₀ = (λ d a b. f₀_off d (omega arith) b (λ q. let e₁ : t + 3 ≡ d = q in omega arith)) in
    let m : Value → Facts = λ b. Holds (operand.Temp (t + 9)) b ∷ f₀ in
    let cs : Value → Facts = λ class. Holds (operand.Temp (t + 8)) class ∷ f₀ in
    let match : tree.Form = tree.Do (t + 9) line op.Match (of_temp (t + 3) ∷ of_temp (t + 8) ∷ []) in
    seq_to z h 0 m f₀ Q _ _ (tree.Follow (tree.Do (t + 8) line op.Native (argument.Name (codes "GeneratorExit") ∷ [])) (alone match)) (alone (tree.If (operand.Temp (t + 9)) (closed_block line t) (threw_block line t))) (passed z h fs Q pass m f₀ (λ c g y. y.1.1))
    (then_carried z h 0 cs m f₀ _ _ _ _ (λ class c g y. y.1)
    (operate_carried z h 0 f₀ line op.Native (python.text (codes "GeneratorExit") ∷ []) (t + 8) (argument.Name (codes "GeneratorExit") ∷ []) (omega arith) (far_off (t + 8) (omega arith) (omega arith)) (λ c g y. refl))
    (λ class. one_carried z h 0 m (cs class) _ _
    (weaken z h 0 (λ b. Holds (operand.Temp (t + 9)) b ∷ cs class) m (cs class) _ _ (λ b c g y. (y.0, y.1.1))
    (operate_carried z h 0 (cs class) line op.Match (value.Obj x ∷ class ∷ []) (t + 9) (of_temp (t + 3) ∷ of_temp (t + 8) ∷ []) (omega arith)
    (λ q. let e₁ : t + 8 ≡ t + 9 = q in omega arith, far_off (t + 9) (omega arith) (omega arith))
    (λ c g y. ap (λ u. nodes.both u (nodes.both (g.temps (t + 8)) (Some []))) y.1.0 ∙ ap (λ u. nodes.both (Some (value.Obj x)) (nodes.both u (Some []))) y.0)))))
    (λ b. let f₃ : Value → Facts = λ found. Holds (operand.Temp (t + 10)) found ∷ m b in
    let found_off : Off (t + 10) (m b) = (λ q. let e₁ : t + 9 ≡ t + 10 = q in omega arith, far_off (t + 10) (omega arith) (omega arith)) in
    let told_off : (found : Value) → Off (t + 11) (f₃ found) = (λ found. (λ q. let e₁ : t + 10 ≡ t + 11 = q in omega arith, (λ q. let e₁ : t + 9 ≡ t + 11 = q in omega arith, far_off (t + 11) (omega arith) (omega arith)))) in
    let near_off : (d : ℕ) → t < d → d < t + 3 → (found r : Value) → Off d (Holds (operand.Temp (t + 11)) r ∷ f₃ found) = (λ d l n found r. (λ q. let e₁ : t + 11 ≡ d = q in omega arith, (λ q. let e₁ : t + 10 ≡ d = q in omega arith, (λ q. let e₁ : t + 9 ≡ d = q in omega arith, f₀_off d l (omega arith) (λ q. let e₁ : t + 3 ≡ d = q in omega arith))))) in
    one_by z h 0 _ Q _ _ (turn_unvalued z h t iterator fs)
    (branch_by z h _ Q (operand.Temp (t + 9)) b _ _ (closed_block line t) (threw_block line t) (λ tabs s u y. y.frames.facts.0) (λ tabs s u y. tt)
    (do_then z h fs Q pass (m b) line (t + 10) op.Find (iterator ∷ python.text (codes "close") ∷ []) (of_temp t ∷ argument.Name (codes "close") ∷ []) _ _ (λ c g y. y.1.1.1) (omega arith) found_off (λ c g y. ap (λ u. nodes.both u (Some (python.text (codes "close") ∷ []))) y.1.1.0)
    (λ close. told_by z h fs line t (t + 13) iterator above out (omega arith) (f₃ close) (t + 10) (t + 11) close _ _ (again_block t) (tree.Follow (tree.Do (t + 12) line op.Call (of_temp (t + 10) ∷ [])) (again_block t)) (λ c g y. y.1.1.1.1) (omega arith) (told_off close) (λ c g y. y.0)
    (λ r. raised_by z h fs line t (t + 13) iterator above out (omega arith) (Holds (operand.Temp (t + 11)) r ∷ f₃ close) x (λ c g y. y.1.1.1.1.1) (λ c g y. y.1.1.1.0))
    (λ r. do_then z h fs Q pass (Holds (operand.Temp (t + 11)) r ∷ f₃ close) line (t + 12) op.Call (close ∷ []) (of_temp (t + 10) ∷ []) _ _ (λ c g y. y.1.1.1.1.1) (omega arith)
    (λ q. let e₁ : t + 11 ≡ t + 12 = q in omega arith, (λ q. let e₁ : t + 10 ≡ t + 12 = q in omega arith, (λ q. let e₁ : t + 9 ≡ t + 12 = q in omega arith, far_off (t + 12) (omega arith) (omega arith))))
    (λ c g y. ap (λ u. nodes.both u (Some [])) y.1.0)
    (λ v. raised_by z h fs line t (t + 13) iterator above out (omega arith) (Holds (operand.Temp (t + 12)) v ∷ Holds (operand.Temp (t + 11)) r ∷ f₃ close) x (λ c g y. y.1.1.1.1.1.1) (λ c g y. y.1.1.1.1.0)))))
    (do_then z h fs Q pass (m b) line (t + 10) op.Find (iterator ∷ python.text (codes "throw") ∷ []) (of_temp t ∷ argument.Name (codes "throw") ∷ []) _ _ (λ c g y. y.1.1.1) (omega arith) found_off (λ c g y. ap (λ u. nodes.both u (Some (python.text (codes "throw") ∷ []))) y.1.1.0)
    (λ throw. told_by z h fs line t (t + 13) iterator above out (omega arith) (f₃ throw) (t + 10) (t + 11) throw _ _ (again_block t) (resumed_block line t op.Call (of_temp (t + 10) ∷ of_temp (t + 3) ∷ [])) (λ c g y. y.1.1.1.1) (omega arith) (told_off throw) (λ c g y. y.0)
    (λ r. raised_by z h fs line t (t + 13) iterator above out (omega arith) (Holds (operand.Temp (t + 11)) r ∷ f₃ throw) x (λ c g y. y.1.1.1.1.1) (λ c g y. y.1.1.1.0))
    (λ r. resumed_by z h fs line t (t + 13) iterator above out (omega arith) (Holds (operand.Temp (t + 11)) r ∷ f₃ throw) op.Call (throw ∷ value.Obj x ∷ []) (of_temp (t + 10) ∷ of_temp (t + 3) ∷ []) (λ c g y. y.1.1.1.1) (near_off (t + 1) (omega arith) (omega arith) throw r) (near_off (t + 2) (omega arith) (omega arith) throw r)
    (λ c g y. ap (λ u. nodes.both u (nodes.both (g.temps (t + 3)) (Some []))) y.1.0 ∙ ap (λ u. nodes.both (Some throw) (nodes.both u (Some []))) y.1.1.1.0))))))
