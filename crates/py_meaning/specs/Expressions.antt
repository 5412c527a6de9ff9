-- What expressions do, row by row (reference, chapter 6). Operands are evaluated from left to right (section 6.16).
use Rattle.std.specs.Prelude.{ℕ, pos, List, [], ◌∷◌, map, Option, Some, None, Bool, true, false, if◌then◌else◌, codes, slice_get}
use Rattle.nu_value.specs.declared.value.Value.{Value}
use Rattle.nu_value.specs.declared.value.Value.TheVariants as value
use Rattle.op_forms.specs.declared.op.Op.{Op}
use Rattle.op_forms.specs.declared.op.Op.TheVariants as op
use Rattle.nu_rows.specs.Rows.{End, Next, Leave, Raised, Return, Stopped, Undefined, Act, Then, Loop, Sub}
use Rattle.nu_rows.specs.Words.{then_value, ends_with, choose}
use Rattle.nu_calls.specs.Exceptions.{class_of}
use Rattle.nu_calls.specs.Calls.{operates, operate, on_line, yields}
use Rattle.py_meaning.specs.Syntax as syntax
use Rattle.py_meaning.specs.Frames.{DelegateTurn, R, L, reads, uses, changes, with_carried, text, load, cell_of}

abbrev pub gives : Value → R
gives v = ends_with (Next v)

-- Words on rows

abbrev pub truth : L → ℕ → Value → R
truth l line v = operate l line op.Truth (v ∷ [])

-- whether an exception is one of a native class, whatever the module binds
abbrev pub is_one_of : L → ℕ → List ℕ → ℕ → R
is_one_of l line class x = then_value (operate l line op.Native (text class ∷ [])) (λ c. operate l line op.Match (value.Obj x ∷ c ∷ []))

-- an exception is raised as it stands, without an entry; nothing is said of other objects
abbrev pub again : ℕ → Option ℕ → End
again x (Some class) = Raised x
again x None = Undefined

abbrev pub raise_again : ℕ → R
raise_again x = Act (λ s. record { out = []; state = s; end = again x (class_of (slice_get s.around.world.heap x)) })

abbrev pub stopped_or : L → ℕ → (Value → R) → (ℕ → R) → End → R
stopped_or l line more over (Next v) = more v
stopped_or l line more over (Raised x) = then_value (is_one_of l line (codes "StopIteration") x) (λ b. choose b (over x) (raise_again x))
stopped_or l line more over (Leave n) = ends_with (Leave n)
stopped_or l line more over (Return v) = ends_with (Return v)
stopped_or l line more over (Stopped kind) = ends_with (Stopped kind)
stopped_or l line more over Undefined = ends_with Undefined

-- a row that gives the next value of an iterator, and what follows that, or follows the StopIteration that it raises
abbrev pub unless_stopped : L → ℕ → R → (Value → R) → (ℕ → R) → R
unless_stopped l line r more over = Then r (stopped_or l line more over)

abbrev pub next : L → ℕ → Value → R
next l line iterator = operate l line op.Next (iterator ∷ [])

-- `yield from` (reference, section 6.2.9; PEP 380)

-- the inner iterator gave a value, which is yielded in the next turn
abbrev pub passes_on : Value → R
passes_on v = changes (with_carried v)

-- it is exhausted: the loop ends, and carries the exception that has the value
abbrev pub delegated : ℕ → R
delegated x = then_value (changes (with_carried (value.Obj x))) (λ v. ends_with (Leave 0))

abbrev pub resumes : L → ℕ → R → R
resumes l line r = unless_stopped l line r passes_on delegated

-- one row or another, by whether a value is None
abbrev pub told : L → ℕ → Value → R → R → R
told l line v r other = then_value (operate l line op.Is (v ∷ value.None ∷ [])) (λ b. choose b r other)

-- a value is sent: on by `next` where it is None
abbrev pub sends : L → ℕ → Value → Value → R
sends l line iterator v =
    told l line v (resumes l line (next l line iterator))
    (then_value (operate l line op.Attr (iterator ∷ text (codes "send") ∷ [])) (λ send. resumes l line (operate l line op.Call (send ∷ v ∷ []))))

-- GeneratorExit: the inner iterator is closed, where it can be
abbrev pub closes_inner : L → ℕ → ℕ → Value → R
closes_inner l line x close = told l line close (raise_again x) (then_value (operate l line op.Call (close ∷ [])) (λ v. raise_again x))

-- another exception: it is thrown into the inner iterator, where that can be
abbrev pub throws : L → ℕ → ℕ → Value → R
throws l line x throw = told l line throw (raise_again x) (resumes l line (operate l line op.Call (throw ∷ value.Obj x ∷ [])))

abbrev pub thrown : L → ℕ → Value → ℕ → R
thrown l line iterator x =
    then_value (is_one_of l line (codes "GeneratorExit") x) (λ b. choose b
    (then_value (operate l line op.Find (iterator ∷ text (codes "close") ∷ [])) (closes_inner l line x))
    (then_value (operate l line op.Find (iterator ∷ text (codes "throw") ∷ [])) (throws l line x)))

abbrev pub woken : L → ℕ → Value → End → R
woken l line iterator (Next v) = sends l line iterator v
woken l line iterator (Raised x) = thrown l line iterator x
woken l line iterator e = ends_with e

-- the carried value is yielded, and what comes back is handed on
abbrev pub delegate_turn : L → ℕ → Value → R
delegate_turn l line iterator = then_value (reads (λ f. f.carried)) (λ v. uses v (λ w. Then (yields l line w) (woken l line iterator)))

abbrev pub delegate_loop : L → ℕ → Value → R
delegate_loop l line iterator = Loop (delegate_turn l line iterator) (DelegateTurn line iterator)

abbrev pub result : L → ℕ → Value → R
result l line x = operate l line op.Attr (x ∷ text (codes "value") ∷ [])

abbrev pub delegate : L → ℕ → Value → R
delegate l line over =
    then_value (operate l line op.Iter (over ∷ [])) (λ iterator.
    unless_stopped l line (next l line iterator)
    (λ v. then_value (changes (with_carried v)) (λ w. then_value (delegate_loop l line iterator) (λ u. then_value (reads (λ f. f.carried)) (result l line))))
    (λ x. result l line (value.Obj x)))

-- Functions (reference, sections 6.14 and 8.7)

-- a function of a code, with its defaults and the cells that it has of this frame
abbrev pub function : L → ℕ → ℕ → Value → Value → List syntax.CellPlace → R
function l line code defaults keywords cells =
    on_line l line (Sub (λ s. operates l op.Func (value.Int (pos code) ∷ defaults ∷ keywords ∷ map (cell_of s.frame) cells) s))

-- values go into a dict under their names, and the row that follows
abbrev pub put_all : L → ℕ → Value → List (List ℕ × Value) → R → R
put_all l line dict [] r = r
put_all l line dict (p ∷ ps) r = then_value (operate l line op.Put (dict ∷ text p.0 ∷ p.1 ∷ [])) (λ w. put_all l line dict ps r)

-- a function without defaults
abbrev pub bare_function : L → ℕ → ℕ → List syntax.CellPlace → R
bare_function l line code cells =
    then_value (operate l line op.Tuple []) (λ defaults. then_value (operate l line op.Dict []) (λ keywords. function l line code defaults keywords cells))

-- the items of a list, as a tuple
abbrev pub as_tuple : L → ℕ → Value → R
as_tuple l line list = then_value (operate l line op.Native (text (codes "tuple") ∷ [])) (λ c. operate l line op.Call (c ∷ list ∷ []))

-- two values compared, `negated` for `not in`
abbrev pub compared : L → ℕ → Op → Bool → Value → Value → R
compared l line o false v w = operate l line o (v ∷ w ∷ [])
compared l line o true v w = then_value (operate l line o (v ∷ w ∷ [])) (λ u. operate l line op.Not (u ∷ []))

-- the dict of a call's keywords: made before the first of them, else at the end
abbrev pub keywords_begun : L → ℕ → Option Value → (Value → R) → R
keywords_begun l line (Some d) k = k d
keywords_begun l line None k = then_value (operate l line op.Dict []) k

-- Expressions

abbrev mutual
  pub expression : L → syntax.Expression → R
  expression l (syntax.Constant v) = gives v
  expression l (syntax.Name line home) = load l line home
  expression l (syntax.Operation line o xs) = each l xs (λ vs. operate l line o vs)
  -- section 6.11: the right operand is evaluated where the left one doesn't decide
  expression l (syntax.Junction line any x y) =
      then_value (expression l x) (λ v. then_value (truth l line v) (λ b. if any then choose b (gives v) (expression l y) else choose b (expression l y) (gives v)))
  -- section 6.12
  expression l (syntax.Conditional line test x y) =
      then_value (expression l test) (λ v. then_value (truth l line v) (λ b. choose b (expression l x) (expression l y)))
  -- section 6.10: each operand is evaluated at most once, and none behind a comparison that is false
  expression l (syntax.Comparison line x links) = then_value (expression l x) (λ v. compare l line v links)
  -- sections 6.2.5 and 6.15
  expression l (syntax.Starred line tuple items) =
      then_value (operate l line op.List []) (λ list. then_value (fill l line list items) (λ v. if tuple then as_tuple l line list else gives list))
  -- section 6.2.7
  expression l (syntax.Dict line entries) =
      then_value (operate l line op.Dict []) (λ dict. then_value (enter l line dict entries) (λ v. gives dict))
  -- section 6.3.4
  expression l (syntax.Call line f arguments) =
      then_value (expression l f) (λ function. then_value (operate l line op.List []) (λ list. pass l line function list None arguments))
  expression l (syntax.Function line code defaults keywords cells) =
      each l defaults (λ vs. named l keywords (λ ps. then_value (operate l line op.Tuple vs) (λ tuple.
      then_value (operate l line op.Dict []) (λ dict. put_all l line dict ps (function l line code tuple dict cells)))))
  -- section 6.2.4: the first iterable is evaluated in the enclosing scope
  expression l (syntax.Comprehension line code x cells) =
      then_value (expression l x) (λ v. then_value (operate l line op.Iter (v ∷ [])) (λ iterator.
      then_value (bare_function l line code cells) (λ f. operate l line op.Call (f ∷ iterator ∷ []))))
  -- section 6.2.9
  expression l (syntax.Yield line x) = then_value (expression l x) (λ v. uses v (yields l line))
  expression l (syntax.YieldFrom line x) = then_value (expression l x) (delegate l line)

  -- all these, and what follows their values
  pub each : L → syntax.Expressions → (List Value → R) → R
  each l syntax.NoMore k = k []
  each l (syntax.More x xs) k = then_value (expression l x) (λ v. each l xs (λ vs. k (v ∷ vs)))

  pub named : L → syntax.Keywords → (List (List ℕ × Value) → R) → R
  named l syntax.NoKeyword k = k []
  named l (syntax.Default name x keywords) k = then_value (expression l x) (λ v. named l keywords (λ ps. k ((name, v) ∷ ps)))

  -- a chain, from the value of the operand on the left
  pub compare : L → ℕ → Value → syntax.Links → R
  compare l line v (syntax.LastLink o negated x) =
      then_value (expression l x) (compared l line o negated v)
  compare l line v (syntax.Link o negated x links) =
      then_value (expression l x) (λ w. then_value (compared l line o negated v w) (λ u.
      then_value (truth l line u) (λ b. choose b (compare l line w links) (gives u))))

  -- the items go into a list
  pub fill : L → ℕ → Value → syntax.Items → R
  fill l line list syntax.NoItem = gives value.None
  fill l line list (syntax.Single x items) = then_value (expression l x) (λ v. then_value (operate l line op.Push (list ∷ v ∷ [])) (λ w. fill l line list items))
  fill l line list (syntax.Spread x items) = then_value (expression l x) (λ v. then_value (operate l line op.Extend (list ∷ v ∷ [])) (λ w. fill l line list items))

  -- the entries go into a dict, each key evaluated before its value
  pub enter : L → ℕ → Value → syntax.Entries → R
  enter l line dict syntax.NoEntry = gives value.None
  enter l line dict (syntax.Pair x y entries) =
      then_value (expression l x) (λ key. then_value (expression l y) (λ v. then_value (operate l line op.Put (dict ∷ key ∷ v ∷ [])) (λ w. enter l line dict entries)))
  enter l line dict (syntax.Merge x entries) = then_value (expression l x) (λ v. then_value (operate l line op.Merge (dict ∷ v ∷ [])) (λ w. enter l line dict entries))

  -- the arguments go into a list and, the keywords, into a dict; then the call
  pub pass : L → ℕ → Value → Value → Option Value → syntax.Arguments → R
  pass l line f list dict syntax.NoArgument = keywords_begun l line dict (λ d. operate l line op.CallX (f ∷ list ∷ d ∷ []))
  pass l line f list dict (syntax.Plain x arguments) =
      then_value (expression l x) (λ v. then_value (operate l line op.Push (list ∷ v ∷ [])) (λ w. pass l line f list dict arguments))
  pass l line f list dict (syntax.Star x arguments) =
      then_value (expression l x) (λ v. then_value (operate l line op.Extend (list ∷ v ∷ [])) (λ w. pass l line f list dict arguments))
  pass l line f list dict (syntax.Keyword name x arguments) = keywords_begun l line dict (λ d.
      then_value (expression l x) (λ v. then_value (operate l line op.KeyPut (d ∷ text name ∷ v ∷ [])) (λ w. pass l line f list (Some d) arguments)))
  pass l line f list dict (syntax.DoubleStar x arguments) = keywords_begun l line dict (λ d.
      then_value (expression l x) (λ v. then_value (operate l line op.KeyMerge (d ∷ v ∷ [])) (λ w. pass l line f list (Some d) arguments)))
