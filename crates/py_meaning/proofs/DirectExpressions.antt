-- No step of a place in an expression leads through an item.
use Rattle.std.proofs.Common.{ℕ, List, [], ◌∷◌, Option, Some, None, Bool, true, false}
use Rattle.nu_value.specs.declared.value.Value.{Value}
use Rattle.op_forms.specs.declared.op.Op.{Op}
use Rattle.nu_rows.specs.Rows.{End, Next, Leave, Raised, Return, Stopped, Undefined}
use Rattle.nu_rows.proofs.Direct.{Direct, act_direct, yield_direct, sub_direct, loop_direct, then_direct, value_direct, choose_direct, line_direct}
use Rattle.nu_calls.specs.Calls.{operate, yields}
use Rattle.py_meaning.specs.Syntax as syntax
use Rattle.py_meaning.specs.Frames.{R, L, uses, load, store, unbind}
use Rattle.py_meaning.specs.Expressions.{is_one_of, stopped_or, unless_stopped, delegated, resumes, told, sends, closes_inner, throws, thrown, woken, delegate_turn, delegate, function, put_all, bare_function, as_tuple, compared, keywords_begun, expression, each, named, compare, fill, enter, pass}

pub op_direct : (l : L) (line : ℕ) (o : Op) (args : List Value) → Direct (operate l line o args)
op_direct l line o args = line_direct _ _ (sub_direct _) (λ x. act_direct _)

pub yields_direct : (l : L) (line : ℕ) (v : Value) → Direct (yields l line v)
yields_direct l line v = line_direct _ _ (yield_direct v) (λ x. act_direct _)

pub uses_direct : (v : Value) (k : Value → R) → ((w : Value) → Direct (k w)) → Direct (uses v k)
uses_direct v k h = value_direct _ _ (act_direct _) h

pub load_direct : (l : L) (line : ℕ) (home : syntax.Home) → Direct (load l line home)
load_direct l line (syntax.Local place name) = value_direct _ _ (act_direct _) (λ v. op_direct l line _ _)
load_direct l line (syntax.Own place name) = value_direct _ _ (act_direct _) (λ v. op_direct l line _ _)
load_direct l line (syntax.Free place name) = value_direct _ _ (act_direct _) (λ v. op_direct l line _ _)
load_direct l line (syntax.Module name) = op_direct l line _ _
load_direct l line (syntax.InClass name) = value_direct _ _ (act_direct _) (λ v. op_direct l line _ _)

pub store_direct : (l : L) (line : ℕ) (home : syntax.Home) (v : Value) → Direct (store l line home v)
store_direct l line (syntax.Local place name) v = act_direct _
store_direct l line (syntax.Own place name) v = value_direct _ _ (act_direct _) (λ c. op_direct l line _ _)
store_direct l line (syntax.Free place name) v = value_direct _ _ (act_direct _) (λ c. op_direct l line _ _)
store_direct l line (syntax.Module name) v = op_direct l line _ _
store_direct l line (syntax.InClass name) v = value_direct _ _ (act_direct _) (λ c. op_direct l line _ _)

pub unbind_direct : (l : L) (line : ℕ) (home : syntax.Home) → Direct (unbind l line home)
unbind_direct l line (syntax.Local place name) = value_direct _ _ (load_direct l line (syntax.Local place name)) (λ v. act_direct _)
unbind_direct l line (syntax.Own place name) = value_direct _ _ (act_direct _) (λ c. op_direct l line _ _)
unbind_direct l line (syntax.Free place name) = value_direct _ _ (act_direct _) (λ c. op_direct l line _ _)
unbind_direct l line (syntax.Module name) = op_direct l line _ _
unbind_direct l line (syntax.InClass name) = value_direct _ _ (act_direct _) (λ c. op_direct l line _ _)

one_of_direct : (l : L) (line : ℕ) (class : List ℕ) (x : ℕ) → Direct (is_one_of l line class x)
one_of_direct l line class x = value_direct _ _ (op_direct l line _ _) (λ c. op_direct l line _ _)

stopped_direct : (l : L) (line : ℕ) (more : Value → R) (over : ℕ → R) → ((v : Value) → Direct (more v)) → ((x : ℕ) → Direct (over x)) → (e : End) → Direct (stopped_or l line more over e)
stopped_direct l line more over h g (Next v) = h v
stopped_direct l line more over h g (Raised x) = value_direct _ _ (one_of_direct l line _ x) (λ b. choose_direct b _ _ (g x) (act_direct _))
stopped_direct l line more over h g (Leave n) = act_direct _
stopped_direct l line more over h g (Return v) = act_direct _
stopped_direct l line more over h g (Stopped kind) = act_direct _
stopped_direct l line more over h g Undefined = act_direct _

pub unless_direct : (l : L) (line : ℕ) (r : R) (more : Value → R) (over : ℕ → R) → Direct r → ((v : Value) → Direct (more v)) → ((x : ℕ) → Direct (over x)) → Direct (unless_stopped l line r more over)
unless_direct l line r more over d h g = then_direct _ _ d (stopped_direct l line more over h g)

delegated_direct : (x : ℕ) → Direct (delegated x)
delegated_direct x = value_direct _ _ (act_direct _) (λ v. act_direct _)

resumes_direct : (l : L) (line : ℕ) (r : R) → Direct r → Direct (resumes l line r)
resumes_direct l line r h = unless_direct l line r _ _ h (λ v. act_direct _) delegated_direct

told_direct : (l : L) (line : ℕ) (v : Value) (r other : R) → Direct r → Direct other → Direct (told l line v r other)
told_direct l line v r other x y = value_direct _ _ (op_direct l line _ _) (λ b. choose_direct b _ _ x y)

sends_direct : (l : L) (line : ℕ) (iterator v : Value) → Direct (sends l line iterator v)
sends_direct l line iterator v = told_direct l line v _ _ (resumes_direct l line _ (op_direct l line _ _)) (value_direct _ _ (op_direct l line _ _) (λ s. resumes_direct l line _ (op_direct l line _ _)))

closes_inner_direct : (l : L) (line x : ℕ) (v : Value) → Direct (closes_inner l line x v)
closes_inner_direct l line x v = told_direct l line v _ _ (act_direct _) (value_direct _ _ (op_direct l line _ _) (λ w. act_direct _))

throws_direct : (l : L) (line x : ℕ) (v : Value) → Direct (throws l line x v)
throws_direct l line x v = told_direct l line v _ _ (act_direct _) (resumes_direct l line _ (op_direct l line _ _))

thrown_direct : (l : L) (line : ℕ) (iterator : Value) (x : ℕ) → Direct (thrown l line iterator x)
thrown_direct l line iterator x = value_direct _ _ (one_of_direct l line _ x) (λ b. choose_direct b _ _
    (value_direct _ _ (op_direct l line _ _) (closes_inner_direct l line x))
    (value_direct _ _ (op_direct l line _ _) (throws_direct l line x)))

woken_direct : (l : L) (line : ℕ) (iterator : Value) (e : End) → Direct (woken l line iterator e)
woken_direct l line iterator (Next v) = sends_direct l line iterator v
woken_direct l line iterator (Raised x) = thrown_direct l line iterator x
woken_direct l line iterator e = act_direct _

pub delegate_turn_direct : (l : L) (line : ℕ) (iterator : Value) → Direct (delegate_turn l line iterator)
delegate_turn_direct l line iterator = value_direct _ _ (act_direct _) (λ v. uses_direct v _ (λ w. then_direct _ _ (yields_direct l line w) (woken_direct l line iterator)))

delegate_direct : (l : L) (line : ℕ) (v : Value) → Direct (delegate l line v)
delegate_direct l line v = value_direct _ _ (op_direct l line _ _) (λ iterator.
    unless_direct l line _ _ _ (op_direct l line _ _)
    (λ w. value_direct _ _ (act_direct _) (λ u. value_direct _ _ (loop_direct _ _ (delegate_turn_direct l line iterator)) (λ u. value_direct _ _ (act_direct _) (λ x. op_direct l line _ _))))
    (λ x. op_direct l line _ _))

function_direct : (l : L) (line code : ℕ) (ds ks : Value) (cells : List syntax.CellPlace) → Direct (function l line code ds ks cells)
function_direct l line code ds ks cells = line_direct _ _ (sub_direct _) (λ x. act_direct _)

put_direct : (l : L) (line : ℕ) (dict : Value) (ps : List (List ℕ × Value)) (r : R) → Direct r → Direct (put_all l line dict ps r)
put_direct l line dict [] r h = h
put_direct l line dict (p ∷ ps) r h = value_direct _ _ (op_direct l line _ _) (λ w. put_direct l line dict ps r h)

pub bare_direct : (l : L) (line code : ℕ) (cells : List syntax.CellPlace) → Direct (bare_function l line code cells)
bare_direct l line code cells =
    value_direct _ _ (op_direct l line _ _) (λ ds. value_direct _ _ (op_direct l line _ _) (λ ks. function_direct l line code ds ks cells))

tuple_direct : (l : L) (line : ℕ) (list : Value) → Direct (as_tuple l line list)
tuple_direct l line list = value_direct _ _ (op_direct l line _ _) (λ c. op_direct l line _ _)

compared_direct : (l : L) (line : ℕ) (o : Op) (b : Bool) (v w : Value) → Direct (compared l line o b v w)
compared_direct l line o false v w = op_direct l line _ _
compared_direct l line o true v w = value_direct _ _ (op_direct l line _ _) (λ u. op_direct l line _ _)

keywords_direct : (l : L) (line : ℕ) (d : Option Value) (k : Value → R) → ((v : Value) → Direct (k v)) → Direct (keywords_begun l line d k)
keywords_direct l line (Some d) k h = h d
keywords_direct l line None k h = value_direct _ _ (op_direct l line _ _) h

mutual
  pub expression_direct : (l : L) (x : syntax.Expression) → Direct (expression l x)
  expression_direct l (syntax.Constant v) = act_direct _
  expression_direct l (syntax.Name line home) = load_direct l line home
  expression_direct l (syntax.Operation line o xs) = each_direct l xs _ (λ vs. op_direct l line o vs)
  expression_direct l (syntax.Junction line true x y) =
      value_direct _ _ (expression_direct l x) (λ v. value_direct _ _ (op_direct l line _ _) (λ b. choose_direct b _ _ (act_direct _) (expression_direct l y)))
  expression_direct l (syntax.Junction line false x y) =
      value_direct _ _ (expression_direct l x) (λ v. value_direct _ _ (op_direct l line _ _) (λ b. choose_direct b _ _ (expression_direct l y) (act_direct _)))
  expression_direct l (syntax.Conditional line test x y) =
      value_direct _ _ (expression_direct l test) (λ v. value_direct _ _ (op_direct l line _ _) (λ b. choose_direct b _ _ (expression_direct l x) (expression_direct l y)))
  expression_direct l (syntax.Comparison line x links) = value_direct _ _ (expression_direct l x) (λ v. compare_direct l line v links)
  expression_direct l (syntax.Starred line true items) =
      value_direct _ _ (op_direct l line _ _) (λ list. value_direct _ _ (fill_direct l line list items) (λ v. tuple_direct l line list))
  expression_direct l (syntax.Starred line false items) =
      value_direct _ _ (op_direct l line _ _) (λ list. value_direct _ _ (fill_direct l line list items) (λ v. act_direct _))
  expression_direct l (syntax.Dict line entries) =
      value_direct _ _ (op_direct l line _ _) (λ dict. value_direct _ _ (enter_direct l line dict entries) (λ v. act_direct _))
  expression_direct l (syntax.Call line f arguments) =
      value_direct _ _ (expression_direct l f) (λ g. value_direct _ _ (op_direct l line _ _) (λ list. pass_direct l line g list None arguments))
  expression_direct l (syntax.Function line code ds ks cells) =
      each_direct l ds _ (λ vs. named_direct l ks _ (λ ps. value_direct _ _ (op_direct l line _ _) (λ tuple.
      value_direct _ _ (op_direct l line _ _) (λ dict. put_direct l line dict ps _ (function_direct l line code tuple dict cells)))))
  expression_direct l (syntax.Comprehension line code x cells) =
      value_direct _ _ (expression_direct l x) (λ v. value_direct _ _ (op_direct l line _ _) (λ iterator.
      value_direct _ _ (bare_direct l line code cells) (λ f. op_direct l line _ _)))
  expression_direct l (syntax.Yield line x) = value_direct _ _ (expression_direct l x) (λ v. uses_direct v _ (yields_direct l line))
  expression_direct l (syntax.YieldFrom line x) = value_direct _ _ (expression_direct l x) (delegate_direct l line)

  pub each_direct : (l : L) (xs : syntax.Expressions) (k : List Value → R) → ((vs : List Value) → Direct (k vs)) → Direct (each l xs k)
  each_direct l syntax.NoMore k h = h []
  each_direct l (syntax.More x xs) k h = value_direct _ _ (expression_direct l x) (λ v. each_direct l xs _ (λ vs. h (v ∷ vs)))

  named_direct : (l : L) (ks : syntax.Keywords) (k : List (List ℕ × Value) → R) → ((ps : List (List ℕ × Value)) → Direct (k ps)) → Direct (named l ks k)
  named_direct l syntax.NoKeyword k h = h []
  named_direct l (syntax.Default name x ks) k h = value_direct _ _ (expression_direct l x) (λ v. named_direct l ks _ (λ ps. h ((name, v) ∷ ps)))

  compare_direct : (l : L) (line : ℕ) (v : Value) (links : syntax.Links) → Direct (compare l line v links)
  compare_direct l line v (syntax.LastLink o negated x) =
      value_direct _ _ (expression_direct l x) (compared_direct l line o negated v)
  compare_direct l line v (syntax.Link o negated x links) =
      value_direct _ _ (expression_direct l x) (λ w. value_direct _ _ (compared_direct l line o negated v w) (λ u.
      value_direct _ _ (op_direct l line _ _) (λ b. choose_direct b _ _ (compare_direct l line w links) (act_direct _))))

  fill_direct : (l : L) (line : ℕ) (list : Value) (items : syntax.Items) → Direct (fill l line list items)
  fill_direct l line list syntax.NoItem = act_direct _
  fill_direct l line list (syntax.Single x items) = value_direct _ _ (expression_direct l x) (λ v. value_direct _ _ (op_direct l line _ _) (λ w. fill_direct l line list items))
  fill_direct l line list (syntax.Spread x items) = value_direct _ _ (expression_direct l x) (λ v. value_direct _ _ (op_direct l line _ _) (λ w. fill_direct l line list items))

  enter_direct : (l : L) (line : ℕ) (dict : Value) (entries : syntax.Entries) → Direct (enter l line dict entries)
  enter_direct l line dict syntax.NoEntry = act_direct _
  enter_direct l line dict (syntax.Pair x y entries) =
      value_direct _ _ (expression_direct l x) (λ k. value_direct _ _ (expression_direct l y) (λ v. value_direct _ _ (op_direct l line _ _) (λ w. enter_direct l line dict entries)))
  enter_direct l line dict (syntax.Merge x entries) = value_direct _ _ (expression_direct l x) (λ v. value_direct _ _ (op_direct l line _ _) (λ w. enter_direct l line dict entries))

  pass_direct : (l : L) (line : ℕ) (f list : Value) (dict : Option Value) (arguments : syntax.Arguments) → Direct (pass l line f list dict arguments)
  pass_direct l line f list dict syntax.NoArgument = keywords_direct l line dict _ (λ d. op_direct l line _ _)
  pass_direct l line f list dict (syntax.Plain x arguments) =
      value_direct _ _ (expression_direct l x) (λ v. value_direct _ _ (op_direct l line _ _) (λ w. pass_direct l line f list dict arguments))
  pass_direct l line f list dict (syntax.Star x arguments) =
      value_direct _ _ (expression_direct l x) (λ v. value_direct _ _ (op_direct l line _ _) (λ w. pass_direct l line f list dict arguments))
  pass_direct l line f list dict (syntax.Keyword name x arguments) = keywords_direct l line dict _ (λ d.
      value_direct _ _ (expression_direct l x) (λ v. value_direct _ _ (op_direct l line _ _) (λ w. pass_direct l line f list (Some d) arguments)))
  pass_direct l line f list dict (syntax.DoubleStar x arguments) = keywords_direct l line dict _ (λ d.
      value_direct _ _ (expression_direct l x) (λ v. value_direct _ _ (op_direct l line _ _) (λ w. pass_direct l line f list (Some d) arguments)))
