-- Loops with `else`: their turns, the body of a turn, and what follows their ends.
use Rattle.std.proofs.Common.{◌≡◌, ℕ, zero, suc, ◌<◌, true, false, ◌∷◌, refl, arith}
use Rattle.nu_value.specs.declared.value.Value.{Value}
use Rattle.nu_value.specs.declared.value.Value.TheVariants as value
use Rattle.nu_rows.specs.Rows.{End, Next, Leave, Raised, Return, Stopped, Undefined, Then}
use Rattle.nu_rows.specs.Words.{on_next}
use Rattle.code_forms.specs.declared.operand.Operand.TheVariants as operand
use Rattle.node_tree.specs.Blocks.{alone}
use Rattle.node_tree.specs.Blocks as tree
use Rattle.node_tree.specs.Nodes as nodes
use Rattle.py_meaning.specs.Frames as python
use Rattle.py_meaning.specs.Statements.{body_ended, else_behind}
use Rattle.carries_base.specs.Frames.{Homes, Holds, Facts}
use Rattle.carries_base.specs.Carries.{Setting, target, S, T, Tables, Correspond, EndsAs, CarriedBy, CarriedTo, Carried}
use Rattle.carries_base.specs.Turns.{TurnedEnds}
use Rattle.carries_base.proofs.Facts.{refit}
use Rattle.carries_base.proofs.Carry.{AllEnds, none_by, act_by, then_by, append_by}
use Rattle.carries_base.proofs.Sequence.{Passes, Unvalued, strengthen, unvalued, one_by}
use Rattle.carries_base.proofs.Control.{EndsLoop, once_by, flagged_by}
use Rattle.carries_names.proofs.Functions.{Extends}

-- known: `fs` outside of the loop, `gs` before each turn, `ts` once the loop has ended by itself, which leads to `else`
module _ (z : Setting) (h : Homes) (fs gs ts : Facts) where
  -- the ends of a loop: by `break`, or by itself
  abbrev pub LoopEnds : AllEnds
  LoopEnds tabs (Next v) s (Next w) t = Correspond z h tabs gs s t
  LoopEnds tabs (Leave zero) s (Next w) t = Correspond z h tabs ts s t
  LoopEnds tabs (Raised x) s (Raised y) t = (x ≡ y) × Correspond z h tabs fs s t
  LoopEnds tabs (Return v) s (Return w) t = (v ≡ w) × Correspond z h tabs fs s t
  LoopEnds tabs (Stopped i) s (Stopped j) t = i ≡ j
  LoopEnds tabs Undefined s Undefined t = Unit {0}
  LoopEnds tabs e s e' t = ⊥

  abbrev pub TurnAs : AllEnds
  TurnAs tabs = TurnedEnds (Correspond z h tabs gs) (LoopEnds tabs)

  -- the ends of a body in a loop of its own, which it leaves to go on, and before that
  abbrev BodyAs : AllEnds
  BodyAs tabs (Next v) s (Leave zero) t = Correspond z h tabs gs s t
  BodyAs tabs (Leave zero) s (Leave (suc zero)) t = Correspond z h tabs gs s t
  BodyAs tabs (Raised x) s (Raised y) t = (x ≡ y) × Correspond z h tabs fs s t
  BodyAs tabs (Return v) s (Return w) t = (v ≡ w) × Correspond z h tabs fs s t
  BodyAs tabs (Stopped i) s (Stopped j) t = i ≡ j
  BodyAs tabs Undefined s Undefined t = Unit {0}
  BodyAs tabs e s e' t = ⊥

  body_done : EndsLoop z h BodyAs TurnAs
  body_done tabs (Next v) s (Leave zero) t x = (Next value.None, refl, x)
  body_done tabs (Leave zero) s (Leave (suc zero)) t x = (Leave zero, refl, x)
  body_done tabs (Raised i) s (Raised j) t x = (Raised j, refl, x)
  body_done tabs (Return i) s (Return j) t x = (Return j, refl, x)
  body_done tabs (Stopped i) s (Stopped j) t x = (Stopped j, refl, x)
  body_done tabs Undefined s Undefined t x = (Undefined, refl, x)
  body_done tabs e s e' t x = absurd x

  no_value : (tabs : Tables) (e : End) (s : S) (v : Value) (t : T) → ¬ BodyAs tabs e s (Next v) t
  no_value tabs (Next v) s w t x = x
  no_value tabs (Leave zero) s w t x = x
  no_value tabs (Leave (suc i)) s w t x = x
  no_value tabs (Raised v) s w t x = x
  no_value tabs (Return v) s w t x = x
  no_value tabs (Stopped v) s w t x = x
  no_value tabs Undefined s w t x = x

  pub turn_unvalued : Unvalued z h 2 TurnAs
  turn_unvalued tabs (Next u) s v w t x = x
  turn_unvalued tabs (Leave zero) s v w t x = x
  turn_unvalued tabs (Leave (suc u)) s v w t x = x
  turn_unvalued tabs (Raised u) s v w t x = x
  turn_unvalued tabs (Return u) s v w t x = x
  turn_unvalued tabs (Stopped u) s v w t x = x
  turn_unvalued tabs Undefined s v w t x = x

  -- the ends of an expression pass
  pub turn_passing : Passes z h 0 (λ v. fs) fs TurnAs
  turn_passing tabs (Next v) s (Next w) t over x = absurd over
  turn_passing tabs (Leave i) s (Leave j) t over x = let l : i < 0 = x.1 in absurd (omega arith)
  turn_passing tabs (Raised v) s (Raised w) t over x = x
  turn_passing tabs (Return v) s (Return w) t over x = x
  turn_passing tabs (Stopped v) s (Stopped w) t over x = x
  turn_passing tabs Undefined s Undefined t over x = tt
  turn_passing tabs e s e' t over x = absurd x

  -- a body, in a loop of its own
  module _ (less : Extends gs fs) where
    out : (tabs : Tables) (s : S) (t : T) → Correspond z h tabs gs s t → Correspond z h tabs fs s t
    out tabs s t x = refit z h tabs gs fs s t (less s.frame.carried t.frame) x

    body_next : (e e' : End) → CarriedBy z h (λ tabs s t. EndsAs z h 2 (λ v. gs) gs tabs e s e' t) BodyAs (body_ended e) (on_next (λ w. nodes.block_row (target z) (alone (tree.Leave 1))) e')
    body_next (Next v) (Next w) = one_by z h 2 _ BodyAs _ _ (λ tabs e s v w t x. absurd (no_value tabs e s v t x)) (act_by z h _ BodyAs _ _ (λ tabs s t x. (refl, x)))
    body_next (Leave zero) (Leave zero) = act_by z h _ BodyAs _ _ (λ tabs s t x. (refl, x.2))
    body_next (Leave zero) (Leave (suc j)) = none_by z h _ BodyAs _ _ (λ tabs s t x. let e : 0 ≡ suc j = x.0 in absurd (omega arith))
    body_next (Leave (suc zero)) (Leave zero) = none_by z h _ BodyAs _ _ (λ tabs s t x. let e : 1 ≡ 0 = x.0 in absurd (omega arith))
    body_next (Leave (suc zero)) (Leave (suc zero)) = act_by z h _ BodyAs _ _ (λ tabs s t x. (refl, x.2))
    body_next (Leave (suc zero)) (Leave (suc (suc j))) = none_by z h _ BodyAs _ _ (λ tabs s t x. let e : 1 ≡ suc (suc j) = x.0 in absurd (omega arith))
    body_next (Leave (suc (suc i))) (Leave j) = none_by z h _ BodyAs _ _ (λ tabs s t x. let l : suc (suc i) < 2 = x.1 in absurd (omega arith))
    body_next (Raised v) (Raised w) = act_by z h _ BodyAs _ _ (λ tabs s t x. (refl, (x.0, out tabs s t x.1)))
    body_next (Return v) (Return w) = act_by z h _ BodyAs _ _ (λ tabs s t x. (refl, (x.0, out tabs s t x.1)))
    body_next (Stopped v) (Stopped w) = act_by z h _ BodyAs _ _ (λ tabs s t x. (refl, x))
    body_next Undefined Undefined = act_by z h _ BodyAs _ _ (λ tabs s t x. (refl, tt))
    body_next e e' = none_by z h _ BodyAs _ _ (λ tabs s t x. x)

    pub body_in_loop : (ps : Facts) (r : python.R) (b : tree.Block) → CarriedTo z h (EndsAs z h 2 (λ v. gs) gs) ps r (nodes.block_row (target z) b) → CarriedTo z h TurnAs ps (Then r body_ended) (nodes.form_row (target z) (tree.Loop (tree.append b (alone (tree.Leave 1)))))
    body_in_loop ps r b x = once_by z h _ BodyAs TurnAs _ (tree.append b (alone (tree.Leave 1))) body_done
        (append_by z h _ BodyAs _ b (alone (tree.Leave 1)) (then_by z h _ (EndsAs z h 2 (λ v. gs) gs) BodyAs r _ body_ended _ x body_next))

  -- `else`, where the flag tells that the loop has ended by itself
  pub else_after : (flag : ℕ) (other : python.R) (ob : tree.Block) → Extends gs (Holds (operand.Temp flag) (value.Bool false) ∷ fs) → Extends ts (Holds (operand.Temp flag) (value.Bool true) ∷ fs) → Carried z h 2 (λ v. fs) fs other (nodes.block_row (target z) ob) → (e e' : End) → CarriedBy z h (λ tabs s t. LoopEnds tabs e s e' t) (EndsAs z h 2 (λ v. fs) fs) (else_behind other e) (on_next (λ w. nodes.block_row (target z) (alone (tree.If (operand.Temp flag) ob tree.Stop))) e')
  else_after flag other ob off on x (Next v) (Next w) =
      one_by z h 2 _ (EndsAs z h 2 (λ v. fs) fs) _ _ (unvalued z h 2 (λ v. fs) fs)
      (flagged_by z h _ (EndsAs z h 2 (λ v. fs) fs) (operand.Temp flag) false _ ob tree.Stop (λ tabs s t y. (off s.frame.carried t.frame y.frames.facts).0)
      (act_by z h _ (EndsAs z h 2 (λ v. fs) fs) _ _ (λ tabs s t y. (refl, refit z h tabs gs fs s t (λ q. (off s.frame.carried t.frame q).1) y))))
  else_after flag other ob off on x (Leave zero) (Next w) =
      one_by z h 2 _ (EndsAs z h 2 (λ v. fs) fs) _ _ (unvalued z h 2 (λ v. fs) fs)
      (flagged_by z h _ (EndsAs z h 2 (λ v. fs) fs) (operand.Temp flag) true _ ob tree.Stop (λ tabs s t y. (on s.frame.carried t.frame y.frames.facts).0)
      (strengthen z h 2 fs ts (EndsAs z h 2 (λ v. fs) fs) _ _ (λ c g q. (on c g q).1) x))
  else_after flag other ob off on x (Raised v) (Raised w) = act_by z h _ (EndsAs z h 2 (λ v. fs) fs) _ _ (λ tabs s t y. (refl, y))
  else_after flag other ob off on x (Return v) (Return w) = act_by z h _ (EndsAs z h 2 (λ v. fs) fs) _ _ (λ tabs s t y. (refl, y))
  else_after flag other ob off on x (Stopped v) (Stopped w) = act_by z h _ (EndsAs z h 2 (λ v. fs) fs) _ _ (λ tabs s t y. (refl, y))
  else_after flag other ob off on x Undefined Undefined = act_by z h _ (EndsAs z h 2 (λ v. fs) fs) _ _ (λ tabs s t y. (refl, y))
  else_after flag other ob off on x e e' = none_by z h _ (EndsAs z h 2 (λ v. fs) fs) _ _ (λ tabs s t y. y)
