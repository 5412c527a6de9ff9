-- Lawful comprehensions go right: what they collect into stays what it is.
use Rattle.std.proofs.Common.{ℕ, ◌≤◌, [], Option, Some, None, refl, subst, arith}
use Rattle.nu_value.specs.declared.value.Value.{Value}
use Rattle.nu_value.specs.declared.value.Value.TheVariants as value
use Rattle.op_forms.specs.declared.op.Op.{Op}
use Rattle.op_forms.specs.declared.op.Op.TheVariants as op
use Rattle.nu_rows.specs.Rows.{Leave}
use Rattle.nu_calls.specs.Calls.{operate}
use Rattle.py_meaning.specs.Syntax as syntax
use Rattle.py_meaning.specs.Frames.{CollectTurn, R as Rw}
use Rattle.py_meaning.specs.Bodies.{collect_turn, turns, ranges, collects}
use Rattle.py_safe.specs.Heaps.{View, AList, ADict, Grows, IsThere}
use Rattle.py_safe.specs.Rules.{IsTruth}
use Rattle.py_safe.specs.Constructs.{Room, LawfulTarget, LawfulTurns, MayCollect}
use Rattle.py_safe.proofs.Right.{Program, source, roster, Kind, Anything, RightBy}
use Rattle.py_safe.proofs.Growth.{grows_trans, there_more}
use Rattle.py_safe.proofs.Rows.{right_map, value_right, choose_right, loop_right}
use Rattle.py_safe.proofs.Names.{There, AnObject, anything, bound_right}
use Rattle.py_safe.proofs.Passing.{done_right, pass_right}
use Rattle.py_safe.proofs.Exceptions.{unless_right}
use Rattle.py_safe.proofs.Collections.{an_object_more, list_made, dict_made, push_right, put_right}
use Rattle.py_safe.proofs.Delegates.{iter_right, next_right, yielded_right}
use Rattle.py_safe.proofs.Expressions.{truth_right, expression_right}
use Rattle.py_safe.proofs.Targets.{assign_right}
use Rattle.py_safe.proofs.Clauses.{returns_right}

-- what a comprehension collects into, if anything
abbrev pub Gathers : Option Op → Kind
Gathers (Some op.List) v x = AnObject AList v x
Gathers (Some op.Dict) v x = AnObject ADict v x
Gathers other v x = Unit {0}

gathers_more : (into : Option Op) (v more : View) → Grows v more → (x : Value) → Gathers into v x → Gathers into more x
gathers_more (Some op.List) v more g x p = an_object_more AList tt v more g x p
gathers_more (Some op.Dict) v more g x p = an_object_more ADict tt v more g x p
gathers_more other v more g x p = tt

-- and is there
abbrev Gathering : Option Op → Kind
Gathering into v x = IsThere v x × Gathers into v x

module _ (z : Program) (r : Room) where
  turn_right : (v : View) (line : ℕ) (iterator : Value) (target : syntax.Target) (inner : Rw) → LawfulTarget (roster z) r target → IsThere v iterator → ((g : View) → Grows v g → RightBy z r r 0 Anything g inner) → RightBy z r r 1 Anything v (collect_turn (source z) line iterator target inner)
  turn_right v line iterator target inner t i x =
      unless_right z r 0 1 There Anything v line _ _ _ (omega arith) (next_right z r v line iterator i)
      (λ y g w a. value_right z r 0 1 Anything Anything g _ _ (omega arith) (assign_right z r target t g y a) (λ u g' w' b. anything z r 1 Anything g' inner (x g' (grows_trans v g g' w w'))))
      (λ e g w a. pass_right z r 1 g (Leave 0) (omega arith))

  mutual
    pub turns_right : (t : syntax.Turns) (into : Option Op) → LawfulTurns (roster z) r into t → (line : ℕ) (x : Value) (v : View) → Gathers into v x → RightBy z r r 0 Anything v (turns (source z) line x t)
    turns_right (syntax.Push y) into p line x v c =
        value_right z r 0 0 There Anything v _ _ (omega arith) (expression_right z r y p.1 v)
        (λ u g w a. push_right z r g line x u (subst (λ i. Gathers i g x) p.0 (gathers_more into v g w x c)) a)
    turns_right (syntax.Put k y) into p line x v c =
        value_right z r 0 0 There Anything v _ _ (omega arith) (expression_right z r k p.1 v)
        (λ key g w a. value_right z r 0 0 There Anything g _ _ (omega arith) (expression_right z r y p.2 g)
        (λ u g' w' b. put_right z r g' line x key u (subst (λ i. Gathers i g' x) p.0 (gathers_more into v g' (grows_trans v g g' w w') x c)) (there_more g g' w' key a) b))
    turns_right (syntax.Emit y) into p line x v c =
        value_right z r 0 0 There Anything v _ _ (omega arith) (expression_right z r y p.1 v) (λ u g w a. anything z r 0 There g _ (yielded_right z r g line u p.0 a))
    turns_right (syntax.Ranging target over t) into p line x v c =
        value_right z r 0 0 There Anything v _ _ (omega arith) (expression_right z r over p.1 v)
        (λ u g w a. value_right z r 0 0 There Anything g _ _ (omega arith) (iter_right z r g line u a)
        (λ iterator g' w' b. loop_right z r 0 Anything Anything g' (CollectTurn line x iterator target t) (collect_turn (source z) line iterator target (turns (source z) line x t)) refl (λ k. tt)
        (turn_right g' line iterator target _ p.0 b (λ g₂ w₂. turns_right t into p.2 line x g₂ (gathers_more into v g₂ (grows_trans v g g₂ w (grows_trans g g' g₂ w' w₂)) x c)))))
    turns_right (syntax.Filter test t) into p line x v c =
        value_right z r 0 0 There Anything v _ _ (omega arith) (expression_right z r test p.0 v)
        (λ u g w a. value_right z r 0 0 (λ g b. IsTruth b) Anything g _ _ (omega arith) (truth_right z r g line u a)
        (λ b g' w' k. choose_right z r r 0 Anything g' b _ _ k (turns_right t into p.1 line x g' (gathers_more into v g' (grows_trans v g g' w w') x c)) (done_right z r 0 g')))

  -- the first loop ranges over the iterator that the scope is handed
  ranges_right : (v : View) (line : ℕ) (into : Option Op) (x : Value) (target : syntax.Target) (t : syntax.Turns) → 1 ≤ r.bound → LawfulTarget (roster z) r target → LawfulTurns (roster z) r into t → Gathers into v x → RightBy z r r 0 Anything v (ranges (source z) line x target t)
  ranges_right v line into x target t b p q c =
      value_right z r 0 0 There Anything v _ _ (omega arith) (bound_right z r v 0 (omega (arith, b)))
      (λ iterator g w a. loop_right z r 0 Anything Anything g (CollectTurn line x iterator target t) (collect_turn (source z) line iterator target (turns (source z) line x t)) refl (λ k. tt)
      (turn_right g line iterator target _ p a (λ g' w'. turns_right t into q line x g' (gathers_more into v g' (grows_trans v g g' w w') x c))))

  gathered : (o : Op) → MayCollect (roster z) (Some o) → (v : View) (line : ℕ) → RightBy z r r 0 (Gathering (Some o)) v (operate (source z) line o [])
  gathered op.List m v line = right_map z r r 0 0 (AnObject AList) (Gathering (Some op.List)) v _ (omega arith) (λ g x w y. (y.0, y)) (list_made z r v line)
  gathered op.Dict m v line = right_map z r r 0 0 (AnObject ADict) (Gathering (Some op.Dict)) v _ (omega arith) (λ g x w y. (y.0, y)) (dict_made z r v line)
  gathered other m v line = absurd m

  pub collects_right : (v : View) (line : ℕ) (into : Option Op) (target : syntax.Target) (t : syntax.Turns) → MayCollect (roster z) into → 1 ≤ r.bound → LawfulTarget (roster z) r target → LawfulTurns (roster z) r into t → RightBy z r r 0 Anything v (collects (source z) line into target t)
  collects_right v line None target t m b p q = ranges_right v line None value.None target t b p q tt
  collects_right v line (Some o) target t m b p q =
      value_right z r 0 0 (Gathering (Some o)) Anything v _ _ (omega arith) (gathered o m v line)
      (λ x g w a. value_right z r 0 0 Anything Anything g _ _ (omega arith) (ranges_right g line (Some o) x target t b p q a.1) (λ u g' w' k. returns_right z r 0 g' x (there_more g g' w' x a.0)))
