-- An exception is raised again, always or where it is no StopIteration.
use Rattle.std.proofs.Common.{◌≡◌, ℕ, ◌+◌, ◌≤◌, [], ◌∷◌, Option, Some, None, codes, refl, sym, ap, ◌∙◌, subst, arith}
use Rattle.std.specs.Prelude.{slice_get}
use Rattle.nu_value.specs.declared.object.Object.{Object}
use Rattle.nu_value.specs.declared.object.Object.TheVariants as object
use Rattle.nu_value.specs.declared.value.Value.{Value}
use Rattle.nu_value.specs.declared.value.Value.TheVariants as value
use Rattle.op_forms.specs.declared.op.Op.TheVariants as op
use Rattle.nu_rows.specs.Rows.{Raised, Undefined}
use Rattle.nu_rows.specs.Words.{then_value, choose}
use Rattle.nu_calls.specs.Exceptions.{class_of}
use Rattle.code_forms.specs.declared.operand.Argument.TheVariants as argument
use Rattle.code_forms.specs.declared.operand.Operand.TheVariants as operand
use Rattle.node_tree.specs.Blocks.{alone, of_temp}
use Rattle.node_tree.specs.Blocks as tree
use Rattle.node_tree.specs.Nodes as nodes
use Rattle.py_meaning.specs.Frames as python
use Rattle.py_meaning.specs.Expressions.{is_one_of, again, raise_again}
use Rattle.carries_base.specs.Frames.{Homes, behind, Holds, Facts}
use Rattle.carries_base.specs.Carries.{Setting, source, target, S, T, Tables, Correspond, CarriedTo, Knows}
use Rattle.carries_base.proofs.Facts.{Off, refit}
use Rattle.carries_base.proofs.Carry.{AllEnds, act_by}
use Rattle.carries_base.proofs.Sequence.{Passes, Unvalued, weaken, strengthen, then_carried, seq_to, one_by, one_carried, read_by}
use Rattle.carries_base.proofs.Operations.{operate_carried}
use Rattle.carries_base.proofs.Control.{branch_by}
use Rattle.carries_names.proofs.Functions.{Extends}
use Rattle.carries_control.specs.Raises.{stopped_block}
use Rattle.carries_control.proofs.Steps.{passed}

-- both sides raise exceptions alone
pub same_end : (x : ℕ) (o : Option Object) → nodes.exception_end x o ≡ again x (class_of o)
same_end x None = refl
same_end x (Some (object.Tuple a)) = refl
same_end x (Some (object.List a)) = refl
same_end x (Some (object.Dict a)) = refl
same_end x (Some (object.Range a b c)) = refl
same_end x (Some (object.Function a b c d)) = refl
same_end x (Some (object.Method a b)) = refl
same_end x (Some (object.Class a b c d)) = refl
same_end x (Some (object.Instance a b)) = refl
same_end x (Some (object.Generator a b c d)) = refl
same_end x (Some (object.Iterator a b c d)) = refl
same_end x (Some (object.View a b)) = refl
same_end x (Some (object.Cell a)) = refl
same_end x (Some (object.Space a)) = refl
same_end x (Some (object.Exception a b c d e)) = refl
same_end x (Some (object.Builtin a b)) = refl
same_end x (Some (object.Trace a)) = refl

module _ (z : Setting) (h : Homes) (fs : Facts) (Q : AllEnds) (pass : Passes z h 0 (λ v. fs) fs Q) where
  -- an exception that a temporary holds
  pub again_by : (gs : Facts) (temp x : ℕ) → Extends gs fs → Knows gs (operand.Temp temp) (value.Obj x) → CarriedTo z h Q gs (raise_again x) (nodes.form_row (target z) (tree.Raise (operand.Temp temp)))
  again_by gs temp x more known =
      read_by z h 0 _ Q (operand.Temp temp) (value.Obj x) _ nodes.raise_row refl (λ tabs s t y. known s.frame.carried t.frame y.frames.facts)
      (act_by z h _ Q _ _ (λ tabs s t y. (
        refl,
        subst (λ e. Q tabs (again x (class_of (slice_get s.around.world.heap x))) s e t)
            (sym (same_end x (slice_get t.around.world.heap x) ∙ ap (λ a. again x (class_of (slice_get a.world.heap x))) (sym y.around.scenes)))
            (ends tabs s t (refit z h tabs gs fs s t (more s.frame.carried t.frame) y) (class_of (slice_get s.around.world.heap x))),
      )))
    where
      ends : (tabs : Tables) (s : S) (t : T) → Correspond z h tabs fs s t → (o : Option ℕ) → Q tabs (again x o) s (again x o) t
      ends tabs s t y (Some class) = pass tabs (Raised x) s (Raised x) t tt (refl, y)
      ends tabs s t y None = pass tabs Undefined s Undefined t tt tt

  -- where it is a StopIteration, something else follows
  pub stopped_by : (un : Unvalued z h 0 Q) (gs : Facts) (line temp t x : ℕ) (over : ℕ → python.R) (ob : tree.Block) → Extends gs fs → behind h ≤ t → Off t gs → Off (t + 1) gs → Knows gs (operand.Temp temp) (value.Obj x) → CarriedTo z h Q gs (over x) (nodes.block_row (target z) ob) → CarriedTo z h Q gs (then_value (is_one_of (source z) line (codes "StopIteration") x) (λ b. choose b (over x) (raise_again x))) (nodes.block_row (target z) (stopped_block line temp t ob))
  stopped_by un gs line temp t x over ob more above off₁ off₂ known next =
      let m : Value → Facts = λ b. Holds (operand.Temp (t + 1)) b ∷ gs in
      let cs : Value → Facts = λ c. Holds (operand.Temp t) c ∷ gs in
      let match : tree.Form = tree.Do (t + 1) line op.Match (of_temp temp ∷ of_temp t ∷ []) in
      seq_to z h 0 m gs Q _ _ (tree.Follow (tree.Do t line op.Native (argument.Name (codes "StopIteration") ∷ [])) (alone match)) (alone (tree.If (operand.Temp (t + 1)) ob (alone (tree.Raise (operand.Temp temp))))) (passed z h fs Q pass m gs more)
      (then_carried z h 0 cs m gs _ _ _ _ (λ c k g y. y.1)
      (operate_carried z h 0 gs line op.Native (python.text (codes "StopIteration") ∷ []) t (argument.Name (codes "StopIteration") ∷ []) above off₁ (λ k g y. refl))
      (λ c. one_carried z h 0 m (cs c) _ _
      (weaken z h 0 (λ b. Holds (operand.Temp (t + 1)) b ∷ cs c) m (cs c) _ _ (λ b k g y. (y.0, y.1.1))
      (operate_carried z h 0 (cs c) line op.Match (value.Obj x ∷ c ∷ []) (t + 1) (of_temp temp ∷ of_temp t ∷ []) (omega arith) (λ e. let e₁ : t ≡ t + 1 = e in omega arith, off₂)
      (λ k g y. ap (λ u. nodes.both u (nodes.both (g.temps t) (Some []))) (known k g y.1) ∙ ap (λ u. nodes.both (Some (value.Obj x)) (nodes.both u (Some []))) y.0)))))
      (λ b. one_by z h 0 _ Q _ _ un
      (branch_by z h _ Q (operand.Temp (t + 1)) b _ _ ob (alone (tree.Raise (operand.Temp temp))) (λ tabs s u y. y.frames.facts.0)
      (λ tabs s u y. pass tabs Undefined s Undefined u tt tt)
      (strengthen z h 0 gs (m b) Q _ _ (λ k g y. y.1) next)
      (strengthen z h 0 gs (m b) Q _ _ (λ k g y. y.1) (one_by z h 0 _ Q _ _ un (again_by gs temp x more known)))))
