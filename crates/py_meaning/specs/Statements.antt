-- What statements do, row by row (reference, chapters 7 and 8). A statement that ends gives None; `continue` and `break` leave the
-- innermost loop as ends of its body.
use Rattle.std.specs.Prelude.{ℕ, zero, suc, ◌+◌, pos, List, [], ◌∷◌, Option, Some, None, codes}
use Rattle.nu_value.specs.declared.value.Value.{Value}
use Rattle.nu_value.specs.declared.value.Value.TheVariants as value
use Rattle.op_forms.specs.declared.op.Op.{Op}
use Rattle.op_forms.specs.declared.op.Op.TheVariants as op
use Rattle.nu_rows.specs.Rows.{End, Next, Leave, Raised, Return, Stopped, Undefined, Then, Loop}
use Rattle.nu_rows.specs.Words.{then_value, ends_with, choose}
use Rattle.nu_calls.specs.Calls.{operate}
use Rattle.py_meaning.specs.Syntax as syntax
use Rattle.py_meaning.specs.Frames.{WhileTurn, ForTurn, R, L, text, load, store, unbind}
use Rattle.py_meaning.specs.Expressions.{gives, truth, unless_stopped, next, raise_again, bare_function, expression, each}

-- Targets (reference, section 7.2)

abbrev pub count : syntax.Targets → ℕ
count syntax.NoTarget = 0
count (syntax.AlsoTo t ts) = count ts + 1

abbrev pub number : ℕ → Value
number n = value.Int (pos n)

abbrev mutual
  -- a value goes to a target
  pub assign : L → Value → syntax.Target → R
  assign l v (syntax.ToName line home) = store l line home v
  assign l v (syntax.ToAttribute line x name) = then_value (expression l x) (λ o. operate l line op.SetAttr (o ∷ text name ∷ v ∷ []))
  assign l v (syntax.ToIndex line x y) =
      then_value (expression l x) (λ o. then_value (expression l y) (λ i. operate l line op.SetIndex (o ∷ i ∷ v ∷ [])))
  assign l v (syntax.ToEach line targets) =
      then_value (operate l line op.Unpack (v ∷ number (count targets) ∷ [])) (λ list. assign_each l line list 0 targets (gives value.None))
  assign l v (syntax.ToStarred line before star behind) =
      then_value (operate l line op.UnpackStar (v ∷ number (count before) ∷ number (count behind) ∷ [])) (λ list.
      assign_each l line list 0 before
      (then_value (then_value (operate l line op.Index (list ∷ number (count before) ∷ [])) (λ w. assign l w star)) (λ w.
      assign_each l line list (count before + 1) behind (gives value.None))))
  assign l v syntax.ToNothing = ends_with Undefined

  -- the items of a list, from a number on, go to targets from left to right; and what follows
  pub assign_each : L → ℕ → Value → ℕ → syntax.Targets → R → R
  assign_each l line list n syntax.NoTarget r = r
  assign_each l line list n (syntax.AlsoTo t ts) r =
      then_value (then_value (operate l line op.Index (list ∷ number n ∷ [])) (λ v. assign l v t)) (λ w. assign_each l line list (n + 1) ts r)

-- one value goes to all these targets
abbrev pub assign_all : L → Value → syntax.Targets → R
assign_all l v syntax.NoTarget = gives value.None
assign_all l v (syntax.AlsoTo t ts) = then_value (assign l v t) (λ w. assign_all l v ts)

-- a target is read, the right side evaluated, the operation done, and the result stored; its parts are evaluated once (section 7.2.1)
abbrev pub augment : L → ℕ → Op → R → syntax.Target → R
augment l line o right (syntax.ToName at home) =
    then_value (load l at home) (λ v. then_value right (λ w. then_value (operate l line o (v ∷ w ∷ [])) (store l at home)))
augment l line o right (syntax.ToAttribute at x name) =
    then_value (expression l x) (λ object. then_value (operate l at op.Attr (object ∷ text name ∷ [])) (λ v.
    then_value right (λ w. then_value (operate l line o (v ∷ w ∷ [])) (λ u. operate l at op.SetAttr (object ∷ text name ∷ u ∷ [])))))
augment l line o right (syntax.ToIndex at x y) =
    then_value (expression l x) (λ object. then_value (expression l y) (λ i. then_value (operate l at op.Index (object ∷ i ∷ [])) (λ v.
    then_value right (λ w. then_value (operate l line o (v ∷ w ∷ [])) (λ u. operate l at op.SetIndex (object ∷ i ∷ u ∷ []))))))
augment l line o right other = ends_with Undefined

abbrev mutual
  -- a target is deleted (section 7.5)
  pub delete : L → syntax.Target → R
  delete l (syntax.ToName line home) = unbind l line home
  delete l (syntax.ToAttribute line x name) = then_value (expression l x) (λ o. operate l line op.DelAttr (o ∷ text name ∷ []))
  delete l (syntax.ToIndex line x y) = then_value (expression l x) (λ o. then_value (expression l y) (λ i. operate l line op.DelIndex (o ∷ i ∷ [])))
  delete l (syntax.ToEach line targets) = delete_each l targets
  delete l (syntax.ToStarred line before star behind) = ends_with Undefined
  delete l syntax.ToNothing = ends_with Undefined

  pub delete_each : L → syntax.Targets → R
  delete_each l syntax.NoTarget = gives value.None
  delete_each l (syntax.AlsoTo t ts) = then_value (delete l t) (λ w. delete_each l ts)

abbrev pub returns : Value → R
returns v = ends_with (Return v)

-- Loops (reference, sections 8.2 and 8.3)

-- an end of a loop's body, as the end of a turn: a value and `continue` lead to the next turn, `break` ends the loop
abbrev pub body_ended : End → R
body_ended (Next v) = gives value.None
body_ended (Leave zero) = gives value.None
body_ended (Leave (suc zero)) = ends_with (Leave 0)
body_ended (Leave (suc (suc n))) = ends_with Undefined
body_ended (Raised x) = ends_with (Raised x)
body_ended (Return v) = ends_with (Return v)
body_ended (Stopped kind) = ends_with (Stopped kind)
body_ended Undefined = ends_with Undefined

-- no further turn: this end leaves the loop too, and leads to `else`
abbrev pub exhausted : R
exhausted = ends_with (Leave 1)

abbrev pub else_behind : R → End → R
else_behind other (Leave zero) = other
else_behind other e = ends_with e

abbrev pub with_else : R → R → R
with_else loop other = Then loop (else_behind other)

abbrev pub while_turn : L → ℕ → R → R → R
while_turn l line test body =
    then_value test (λ v. then_value (truth l line v) (λ b. choose b (Then body body_ended) exhausted))

abbrev pub for_turn : L → ℕ → Value → syntax.Target → R → R
for_turn l line iterator target body =
    unless_stopped l line (next l line iterator) (λ v. Then (then_value (assign l v target) (λ w. body)) body_ended) (λ x. exhausted)

-- `try` and `finally` (reference, section 8.4)

-- the end that was pending goes on, where the clause ends by itself; any other end of the clause takes its place
abbrev pub ends_again : End → R
ends_again (Raised x) = raise_again x
ends_again e = ends_with e

abbrev pub pending : End → End → R
pending e (Next v) = ends_again e
pending e other = ends_with other

-- a clause that always runs; a stop ends all
abbrev pub finishing : R → End → R
finishing last (Stopped kind) = ends_with (Stopped kind)
finishing last Undefined = ends_with Undefined
finishing last e = Then last (pending e)

abbrev pub tries : R → (ℕ → R) → End → R
tries other handlers (Next v) = other
tries other handlers (Raised x) = handlers x
tries other handlers e = ends_with e

-- the clause's name is bound to the exception while the body runs, and then unbound
abbrev pub caught : L → ℕ → Option syntax.Caught → R → R
caught l x None body = body
caught l x (Some name) body =
    then_value (store l name.line name.home (value.Obj x)) (λ w.
    Then body (finishing (then_value (store l name.line name.home value.None) (λ u. unbind l name.line name.home))))

-- `with` (reference, section 8.5)

abbrev pub swallows : ℕ → Value → R
swallows x b = choose b (gives value.None) (raise_again x)

abbrev pub leaves_by : L → ℕ → Value → ℕ → R
leaves_by l line leave x =
    then_value (operate l line op.ClassOf (value.Obj x ∷ [])) (λ class. then_value (operate l line op.Trace (value.Obj x ∷ [])) (λ trace.
    then_value (operate l line op.Call (leave ∷ class ∷ value.Obj x ∷ trace ∷ [])) (λ v. then_value (truth l line v) (swallows x))))

abbrev pub leaving : L → ℕ → Value → End → R
leaving l line leave (Raised x) = leaves_by l line leave x
leaving l line leave (Stopped kind) = ends_with (Stopped kind)
leaving l line leave Undefined = ends_with Undefined
leaving l line leave e = then_value (operate l line op.Call (leave ∷ value.None ∷ value.None ∷ value.None ∷ [])) (λ v. ends_with e)

abbrev pub with_manager : L → ℕ → Value → (Value → R) → R
with_manager l line manager inside =
    then_value (operate l line op.Manager (manager ∷ text (codes "__enter__") ∷ [])) (λ enter.
    then_value (operate l line op.Manager (manager ∷ text (codes "__exit__") ∷ [])) (λ leave.
    then_value (operate l line op.Call (enter ∷ [])) (λ v. Then (inside v) (leaving l line leave))))

-- Exceptions (reference, sections 7.3 and 7.8)

abbrev pub raise : L → ℕ → Value → R
raise l line v = then_value (operate l line op.Exc (v ∷ [])) (λ x. operate l line op.Raise (x ∷ []))

abbrev pub reraise : Option ℕ → R
reraise (Some x) = raise_again x
reraise None = ends_with Undefined

abbrev pub fails : L → ℕ → List Value → R
fails l line texts =
    then_value (operate l line op.Native (text (codes "AssertionError") ∷ [])) (λ class. then_value (operate l line op.Call (class ∷ texts)) (raise l line))

-- Definitions (reference, sections 8.7 and 8.8)

-- the decorators are evaluated from the first to the last, and applied from the last to the first
abbrev pub decorators : L → List syntax.Decorator → (List (ℕ × Value) → R) → R
decorators l [] k = k []
decorators l (d ∷ ds) k = then_value (expression l d.is) (λ v. decorators l ds (λ vs. k ((d.line, v) ∷ vs)))

abbrev pub decorated : L → List (ℕ × Value) → Value → (Value → R) → R
decorated l [] v k = k v
decorated l (d ∷ ds) v k = decorated l ds v (λ w. then_value (operate l d.0 op.Call (d.1 ∷ w ∷ [])) k)

abbrev pub class_made : L → ℕ → List ℕ → ℕ → List syntax.CellPlace → Value → R
class_made l line name code cells base =
    then_value (operate l line op.Space []) (λ names. then_value (bare_function l line code cells) (λ body.
    then_value (operate l line op.Call (body ∷ names ∷ [])) (λ v. operate l line op.Class (text name ∷ base ∷ names ∷ []))))

-- Statements; `handled` is the exception of the `except` clause around them

abbrev mutual
  pub statement : L → Option ℕ → syntax.Statement → R
  statement l handled (syntax.Evaluate x) = then_value (expression l x) (λ v. gives value.None)
  -- section 7.2: the right side comes first
  statement l handled (syntax.Assign targets x) = then_value (expression l x) (λ v. assign_all l v targets)
  statement l handled (syntax.Augment line o target x) = augment l line o (expression l x) target
  statement l handled (syntax.Delete target) = delete l target
  statement l handled syntax.Pass = gives value.None
  statement l handled syntax.Break = ends_with (Leave 1)
  statement l handled syntax.Continue = ends_with (Leave 0)
  statement l handled (syntax.Return x) = then_value (expression l x) returns
  statement l handled (syntax.Raise line x) = then_value (expression l x) (raise l line)
  statement l handled syntax.Reraise = reraise handled
  statement l handled (syntax.Assert line test texts) =
      then_value (expression l test) (λ v. then_value (truth l line v) (λ b. choose b (gives value.None) (each l texts (fails l line))))
  -- section 8.1
  statement l handled (syntax.If line test body other) =
      then_value (expression l test) (λ v. then_value (truth l line v) (λ b. choose b (block l handled body) (block l handled other)))
  statement l handled (syntax.While line test body other) =
      with_else (Loop (while_turn l line (expression l test) (block l handled body)) (WhileTurn line test body handled)) (block l handled other)
  statement l handled (syntax.For line target over body other) =
      then_value (expression l over) (λ v. then_value (operate l line op.Iter (v ∷ [])) (λ iterator.
      with_else (Loop (for_turn l line iterator target (block l handled body)) (ForTurn line iterator target body handled)) (block l handled other)))
  statement l handled (syntax.Try body handlers other) = Then (block l handled body) (tries (block l handled other) (handler l handled handlers))
  statement l handled (syntax.Finally body last) = Then (block l handled body) (finishing (block l None last))
  statement l handled (syntax.With line manager targets body) =
      then_value (expression l manager) (λ m. with_manager l line m (λ v. then_value (assign_all l v targets) (λ w. block l handled body)))
  statement l handled (syntax.Define line ds function home) =
      decorators l ds (λ vs. then_value (expression l function) (λ f. decorated l vs f (store l line home)))
  statement l handled (syntax.Class line ds name base code cells home) =
      decorators l ds (λ vs. then_value (expression l base) (λ b.
      then_value (class_made l line name code cells b) (λ class. decorated l vs class (store l line home))))

  pub block : L → Option ℕ → syntax.Block → R
  block l handled syntax.Done = gives value.None
  block l handled (syntax.Then s rest) = then_value (statement l handled s) (λ v. block l handled rest)

  -- the first clause that fits an exception runs; else it is raised again
  pub handler : L → Option ℕ → syntax.Handlers → ℕ → R
  handler l handled syntax.NoHandler x = raise_again x
  handler l handled (syntax.Bare body) x = block l (Some x) body
  handler l handled (syntax.Handler line class name body handlers) x =
      then_value (expression l class) (λ c. then_value (operate l line op.Match (value.Obj x ∷ c ∷ [])) (λ b.
      choose b (caught l x name (block l (Some x) body)) (handler l handled handlers x)))
