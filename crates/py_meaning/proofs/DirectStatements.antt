-- No step of a place in a statement, or in the body of a code, leads through an item.
use Rattle.std.proofs.Common.{ℕ, zero, suc, List, [], ◌∷◌, Option, Some, None}
use Rattle.nu_value.specs.declared.value.Value.{Value}
use Rattle.op_forms.specs.declared.op.Op.{Op}
use Rattle.nu_rows.specs.Rows.{End, Next, Leave, Raised, Return, Stopped, Undefined}
use Rattle.nu_rows.proofs.Direct.{Direct, act_direct, loop_direct, then_direct, value_direct, choose_direct}
use Rattle.py_meaning.specs.Syntax as syntax
use Rattle.py_meaning.specs.Frames.{R, L}
use Rattle.py_meaning.specs.Statements.{assign, assign_each, assign_all, augment, delete, delete_each, body_ended, with_else, else_behind, while_turn, for_turn, returns, ends_again, pending, finishing, tries, caught, leaving, with_manager, raise, reraise, fails, decorators, decorated, class_made, statement, block, handler}
use Rattle.py_meaning.specs.Bodies.{collect_turn, turns, ranges, collects, body_row, cell_filled, with_cells, code_row}
use Rattle.py_meaning.proofs.DirectExpressions.{op_direct, yields_direct, uses_direct, load_direct, store_direct, unbind_direct, unless_direct, bare_direct, expression_direct, each_direct}

mutual
  assign_direct : (l : L) (v : Value) (t : syntax.Target) → Direct (assign l v t)
  assign_direct l v (syntax.ToName line home) = store_direct l line home v
  assign_direct l v (syntax.ToAttribute line x name) = value_direct _ _ (expression_direct l x) (λ o. op_direct l line _ _)
  assign_direct l v (syntax.ToIndex line x y) = value_direct _ _ (expression_direct l x) (λ o. value_direct _ _ (expression_direct l y) (λ i. op_direct l line _ _))
  assign_direct l v (syntax.ToEach line ts) = value_direct _ _ (op_direct l line _ _) (λ list. assign_each_direct l line list 0 ts _ (act_direct _))
  assign_direct l v (syntax.ToStarred line before star behind) =
      value_direct _ _ (op_direct l line _ _) (λ list. assign_each_direct l line list 0 before _
      (value_direct _ _ (value_direct _ _ (op_direct l line _ _) (λ w. assign_direct l w star)) (λ w. assign_each_direct l line list _ behind _ (act_direct _))))
  assign_direct l v syntax.ToNothing = act_direct _

  assign_each_direct : (l : L) (line : ℕ) (list : Value) (n : ℕ) (ts : syntax.Targets) (r : R) → Direct r → Direct (assign_each l line list n ts r)
  assign_each_direct l line list n syntax.NoTarget r h = h
  assign_each_direct l line list n (syntax.AlsoTo t ts) r h =
      value_direct _ _ (value_direct _ _ (op_direct l line _ _) (λ v. assign_direct l v t)) (λ w. assign_each_direct l line list _ ts r h)

assign_all_direct : (l : L) (v : Value) (ts : syntax.Targets) → Direct (assign_all l v ts)
assign_all_direct l v syntax.NoTarget = act_direct _
assign_all_direct l v (syntax.AlsoTo t ts) = value_direct _ _ (assign_direct l v t) (λ w. assign_all_direct l v ts)

augment_direct : (l : L) (line : ℕ) (o : Op) (r : R) (t : syntax.Target) → Direct r → Direct (augment l line o r t)
augment_direct l line o r (syntax.ToName at home) h =
    value_direct _ _ (load_direct l at home) (λ v. value_direct _ _ h (λ w. value_direct _ _ (op_direct l line _ _) (store_direct l at home)))
augment_direct l line o r (syntax.ToAttribute at x name) h =
    value_direct _ _ (expression_direct l x) (λ x. value_direct _ _ (op_direct l at _ _) (λ v. value_direct _ _ h (λ w. value_direct _ _ (op_direct l line _ _) (λ u. op_direct l at _ _))))
augment_direct l line o r (syntax.ToIndex at x y) h =
    value_direct _ _ (expression_direct l x) (λ x. value_direct _ _ (expression_direct l y) (λ i. value_direct _ _ (op_direct l at _ _) (λ v.
    value_direct _ _ h (λ w. value_direct _ _ (op_direct l line _ _) (λ u. op_direct l at _ _)))))
augment_direct l line o r (syntax.ToEach at ts) h = act_direct _
augment_direct l line o r (syntax.ToStarred at before star behind) h = act_direct _
augment_direct l line o r syntax.ToNothing h = act_direct _

mutual
  delete_direct : (l : L) (t : syntax.Target) → Direct (delete l t)
  delete_direct l (syntax.ToName line home) = unbind_direct l line home
  delete_direct l (syntax.ToAttribute line x name) = value_direct _ _ (expression_direct l x) (λ o. op_direct l line _ _)
  delete_direct l (syntax.ToIndex line x y) = value_direct _ _ (expression_direct l x) (λ o. value_direct _ _ (expression_direct l y) (λ i. op_direct l line _ _))
  delete_direct l (syntax.ToEach line ts) = delete_each_direct l ts
  delete_direct l (syntax.ToStarred line before star behind) = act_direct _
  delete_direct l syntax.ToNothing = act_direct _

  delete_each_direct : (l : L) (ts : syntax.Targets) → Direct (delete_each l ts)
  delete_each_direct l syntax.NoTarget = act_direct _
  delete_each_direct l (syntax.AlsoTo t ts) = value_direct _ _ (delete_direct l t) (λ w. delete_each_direct l ts)

body_direct : (e : End) → Direct (body_ended e)
body_direct (Next v) = act_direct _
body_direct (Leave zero) = act_direct _
body_direct (Leave (suc zero)) = act_direct _
body_direct (Leave (suc (suc n))) = act_direct _
body_direct (Raised x) = act_direct _
body_direct (Return v) = act_direct _
body_direct (Stopped kind) = act_direct _
body_direct Undefined = act_direct _

else_direct : (r : R) → Direct r → (e : End) → Direct (else_behind r e)
else_direct r h (Leave zero) = h
else_direct r h (Leave (suc n)) = act_direct _
else_direct r h (Next v) = act_direct _
else_direct r h (Raised x) = act_direct _
else_direct r h (Return v) = act_direct _
else_direct r h (Stopped kind) = act_direct _
else_direct r h Undefined = act_direct _

with_else_direct : (loop r : R) → Direct loop → Direct r → Direct (with_else loop r)
with_else_direct loop r h g = then_direct _ _ h (else_direct r g)

while_direct : (l : L) (line : ℕ) (test body : R) → Direct test → Direct body → Direct (while_turn l line test body)
while_direct l line test body h g =
    value_direct _ _ h (λ v. value_direct _ _ (op_direct l line _ _) (λ b. choose_direct b _ _ (then_direct _ _ g body_direct) (act_direct _)))

for_direct : (l : L) (line : ℕ) (iterator : Value) (t : syntax.Target) (body : R) → Direct body → Direct (for_turn l line iterator t body)
for_direct l line iterator t body h =
    unless_direct l line _ _ _ (op_direct l line _ _) (λ v. then_direct _ _ (value_direct _ _ (assign_direct l v t) (λ w. h)) body_direct) (λ x. act_direct _)

ends_again_direct : (e : End) → Direct (ends_again e)
ends_again_direct (Raised x) = act_direct _
ends_again_direct e = act_direct _

returns_direct : (v : Value) → Direct (returns v)
returns_direct v = act_direct _

pending_direct : (e d : End) → Direct (pending e d)
pending_direct e (Next v) = ends_again_direct e
pending_direct e d = act_direct _

finishing_direct : (r : R) → Direct r → (e : End) → Direct (finishing r e)
finishing_direct r h (Stopped kind) = act_direct _
finishing_direct r h Undefined = act_direct _
finishing_direct r h e = then_direct _ _ h (pending_direct e)

tries_direct : (r : R) (k : ℕ → R) → Direct r → ((x : ℕ) → Direct (k x)) → (e : End) → Direct (tries r k e)
tries_direct r k h g (Next v) = h
tries_direct r k h g (Raised x) = g x
tries_direct r k h g e = act_direct _

caught_direct : (l : L) (x : ℕ) (name : Option syntax.Caught) (r : R) → Direct r → Direct (caught l x name r)
caught_direct l x None r h = h
caught_direct l x (Some name) r h =
    value_direct _ _ (store_direct l _ _ _) (λ w. then_direct _ _ h (finishing_direct _ (value_direct _ _ (store_direct l _ _ _) (λ u. unbind_direct l _ _))))

leaving_direct : (l : L) (line : ℕ) (leave : Value) (e : End) → Direct (leaving l line leave e)
leaving_direct l line leave (Raised x) =
    value_direct _ _ (op_direct l line _ _) (λ class. value_direct _ _ (op_direct l line _ _) (λ trace. value_direct _ _ (op_direct l line _ _) (λ v.
    value_direct _ _ (op_direct l line _ _) (λ b. choose_direct b _ _ (act_direct _) (act_direct _)))))
leaving_direct l line leave (Stopped kind) = act_direct _
leaving_direct l line leave Undefined = act_direct _
leaving_direct l line leave e = value_direct _ _ (op_direct l line _ _) (λ v. act_direct _)

with_direct : (l : L) (line : ℕ) (m : Value) (k : Value → R) → ((v : Value) → Direct (k v)) → Direct (with_manager l line m k)
with_direct l line m k h =
    value_direct _ _ (op_direct l line _ _) (λ enter. value_direct _ _ (op_direct l line _ _) (λ leave. value_direct _ _ (op_direct l line _ _) (λ v.
    then_direct _ _ (h v) (leaving_direct l line leave))))

raise_direct : (l : L) (line : ℕ) (v : Value) → Direct (raise l line v)
raise_direct l line v = value_direct _ _ (op_direct l line _ _) (λ x. op_direct l line _ _)

reraise_direct : (x : Option ℕ) → Direct (reraise x)
reraise_direct (Some x) = act_direct _
reraise_direct None = act_direct _

fails_direct : (l : L) (line : ℕ) (vs : List Value) → Direct (fails l line vs)
fails_direct l line vs = value_direct _ _ (op_direct l line _ _) (λ class. value_direct _ _ (op_direct l line _ _) (raise_direct l line))

decorators_direct : (l : L) (ds : List syntax.Decorator) (k : List (ℕ × Value) → R) → ((vs : List (ℕ × Value)) → Direct (k vs)) → Direct (decorators l ds k)
decorators_direct l [] k h = h []
decorators_direct l (d ∷ ds) k h = value_direct _ _ (expression_direct l d.is) (λ v. decorators_direct l ds _ (λ vs. h ((d.line, v) ∷ vs)))

decorated_direct : (l : L) (ds : List (ℕ × Value)) (v : Value) (k : Value → R) → ((v : Value) → Direct (k v)) → Direct (decorated l ds v k)
decorated_direct l [] v k h = h v
decorated_direct l (d ∷ ds) v k h = decorated_direct l ds v _ (λ w. value_direct _ _ (op_direct l d.0 _ _) h)

class_direct : (l : L) (line : ℕ) (name : List ℕ) (code : ℕ) (cells : List syntax.CellPlace) (base : Value) → Direct (class_made l line name code cells base)
class_direct l line name code cells base =
    value_direct _ _ (op_direct l line _ _) (λ names. value_direct _ _ (bare_direct l line code cells) (λ body. value_direct _ _ (op_direct l line _ _) (λ v. op_direct l line _ _)))

mutual
  statement_direct : (l : L) (handled : Option ℕ) (s : syntax.Statement) → Direct (statement l handled s)
  statement_direct l handled (syntax.Evaluate x) = value_direct _ _ (expression_direct l x) (λ v. act_direct _)
  statement_direct l handled (syntax.Assign ts x) = value_direct _ _ (expression_direct l x) (λ v. assign_all_direct l v ts)
  statement_direct l handled (syntax.Augment line o t x) = augment_direct l line o _ t (expression_direct l x)
  statement_direct l handled (syntax.Delete t) = delete_direct l t
  statement_direct l handled syntax.Pass = act_direct _
  statement_direct l handled syntax.Break = act_direct _
  statement_direct l handled syntax.Continue = act_direct _
  statement_direct l handled (syntax.Return x) = value_direct _ _ (expression_direct l x) returns_direct
  statement_direct l handled (syntax.Raise line x) = value_direct _ _ (expression_direct l x) (raise_direct l line)
  statement_direct l handled syntax.Reraise = reraise_direct handled
  statement_direct l handled (syntax.Assert line test texts) =
      value_direct _ _ (expression_direct l test) (λ v. value_direct _ _ (op_direct l line _ _) (λ b. choose_direct b _ _ (act_direct _) (each_direct l texts _ (fails_direct l line))))
  statement_direct l handled (syntax.If line test body other) =
      value_direct _ _ (expression_direct l test) (λ v. value_direct _ _ (op_direct l line _ _) (λ b. choose_direct b _ _ (block_direct l handled body) (block_direct l handled other)))
  statement_direct l handled (syntax.While line test body other) =
      with_else_direct _ _ (loop_direct _ _ (while_direct l line _ _ (expression_direct l test) (block_direct l handled body))) (block_direct l handled other)
  statement_direct l handled (syntax.For line t over body other) =
      value_direct _ _ (expression_direct l over) (λ v. value_direct _ _ (op_direct l line _ _) (λ iterator.
      with_else_direct _ _ (loop_direct _ _ (for_direct l line iterator t _ (block_direct l handled body))) (block_direct l handled other)))
  statement_direct l handled (syntax.Try body handlers other) =
      then_direct _ _ (block_direct l handled body) (tries_direct _ _ (block_direct l handled other) (handler_direct l handled handlers))
  statement_direct l handled (syntax.Finally body last) = then_direct _ _ (block_direct l handled body) (finishing_direct _ (block_direct l None last))
  statement_direct l handled (syntax.With line manager ts body) =
      value_direct _ _ (expression_direct l manager) (λ m. with_direct l line m _ (λ v. value_direct _ _ (assign_all_direct l v ts) (λ w. block_direct l handled body)))
  statement_direct l handled (syntax.Define line ds function home) =
      decorators_direct l ds _ (λ vs. value_direct _ _ (expression_direct l function) (λ f. decorated_direct l vs f _ (store_direct l line home)))
  statement_direct l handled (syntax.Class line ds name base code cells home) =
      decorators_direct l ds _ (λ vs. value_direct _ _ (expression_direct l base) (λ b.
      value_direct _ _ (class_direct l line name code cells b) (λ class. decorated_direct l vs class _ (store_direct l line home))))

  pub block_direct : (l : L) (handled : Option ℕ) (b : syntax.Block) → Direct (block l handled b)
  block_direct l handled syntax.Done = act_direct _
  block_direct l handled (syntax.Then s rest) = value_direct _ _ (statement_direct l handled s) (λ v. block_direct l handled rest)

  handler_direct : (l : L) (handled : Option ℕ) (hs : syntax.Handlers) (x : ℕ) → Direct (handler l handled hs x)
  handler_direct l handled syntax.NoHandler x = act_direct _
  handler_direct l handled (syntax.Bare body) x = block_direct l (Some x) body
  handler_direct l handled (syntax.Handler line class name body hs) x =
      value_direct _ _ (expression_direct l class) (λ c. value_direct _ _ (op_direct l line _ _) (λ b.
      choose_direct b _ _ (caught_direct l x name _ (block_direct l (Some x) body)) (handler_direct l handled hs x)))

collect_direct : (l : L) (line : ℕ) (iterator : Value) (t : syntax.Target) (r : R) → Direct r → Direct (collect_turn l line iterator t r)
collect_direct l line iterator t r h =
    unless_direct l line _ _ _ (op_direct l line _ _) (λ v. value_direct _ _ (assign_direct l v t) (λ w. h)) (λ x. act_direct _)

turns_direct : (l : L) (line : ℕ) (into : Value) (ts : syntax.Turns) → Direct (turns l line into ts)
turns_direct l line into (syntax.Push x) = value_direct _ _ (expression_direct l x) (λ v. op_direct l line _ _)
turns_direct l line into (syntax.Put x y) = value_direct _ _ (expression_direct l x) (λ k. value_direct _ _ (expression_direct l y) (λ v. op_direct l line _ _))
turns_direct l line into (syntax.Emit x) = value_direct _ _ (expression_direct l x) (λ v. uses_direct v _ (yields_direct l line))
turns_direct l line into (syntax.Ranging t over ts) =
    value_direct _ _ (expression_direct l over) (λ v. value_direct _ _ (op_direct l line _ _) (λ iterator. loop_direct _ _ (collect_direct l line iterator t _ (turns_direct l line into ts))))
turns_direct l line into (syntax.Filter test ts) =
    value_direct _ _ (expression_direct l test) (λ v. value_direct _ _ (op_direct l line _ _) (λ b. choose_direct b _ _ (turns_direct l line into ts) (act_direct _)))

ranges_direct : (l : L) (line : ℕ) (into : Value) (t : syntax.Target) (ts : syntax.Turns) → Direct (ranges l line into t ts)
ranges_direct l line into t ts = value_direct _ _ (act_direct _) (λ iterator. loop_direct _ _ (collect_direct l line iterator t _ (turns_direct l line into ts)))

collects_direct : (l : L) (line : ℕ) (o : Option Op) (t : syntax.Target) (ts : syntax.Turns) → Direct (collects l line o t ts)
collects_direct l line None t ts = ranges_direct l line _ t ts
collects_direct l line (Some o) t ts = value_direct _ _ (op_direct l line _ _) (λ made. value_direct _ _ (ranges_direct l line made t ts) (λ v. returns_direct made))

body_row_direct : (l : L) (b : syntax.Body) → Direct (body_row l b)
body_row_direct l (syntax.Statements b) = block_direct l None b
body_row_direct l (syntax.Value' x) = value_direct _ _ (expression_direct l x) returns_direct
body_row_direct l (syntax.Collect line o t ts) = collects_direct l line o t ts

filled_direct : (l : L) (line : ℕ) (c : Value) (own : Option ℕ) → Direct (cell_filled l line c own)
filled_direct l line c None = act_direct _
filled_direct l line c (Some place) = value_direct _ _ (act_direct _) (λ v. op_direct l line _ _)

cells_direct : (l : L) (line : ℕ) (owns : List (Option ℕ)) (r : R) → Direct r → Direct (with_cells l line owns r)
cells_direct l line [] r h = h
cells_direct l line (own ∷ owns) r h =
    value_direct _ _ (op_direct l line _ _) (λ c. value_direct _ _ (act_direct _) (λ v. value_direct _ _ (filled_direct l line c own) (λ w. cells_direct l line owns r h)))

pub code_direct : (l : L) (c : Option syntax.Code) → Direct (code_row l c)
code_direct l (Some c) = cells_direct l _ c.owns _ (body_row_direct l c.body)
code_direct l None = act_direct _
