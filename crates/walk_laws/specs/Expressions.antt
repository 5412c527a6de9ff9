-- The primitive statements of an expression, as one recursion over its tree (reference, chapter 6).
use Rattle.std.specs.Prelude.{ℕ, ◌+◌, Bool, true, false, List, [], ◌∷◌, ◌++◌, map, Option, Some, None, if◌then◌else◌}
use Rattle.std.specs.List.{list_any}
use Rattle.nu_value.specs.declared.header.ParamKind.{ParamKind}
use Rattle.nu_value.specs.declared.value.Value.{Value}
use Rattle.nu_value.specs.declared.value.Value.TheVariants as value
use Rattle.op_forms.specs.declared.constant.Const.TheVariants as const
use Rattle.op_forms.specs.declared.op.Op.{Op}
use Rattle.op_forms.specs.declared.op.Op.TheVariants as op
use Rattle.code_forms.specs.declared.operand.Operand.{Operand}
use Rattle.code_forms.specs.declared.operand.Operand.TheVariants as operand
use Rattle.py_ast.specs.declared.expr.Item.{Item}
use Rattle.py_ast.specs.declared.expr.Item.TheVariants as item
use Rattle.py_ast.specs.declared.expr.Entry.{Entry}
use Rattle.py_ast.specs.declared.expr.Entry.TheVariants as entry
use Rattle.py_ast.specs.declared.expr.Argument.{Argument}
use Rattle.py_ast.specs.declared.expr.Argument.TheVariants as argument
use Rattle.py_ast.specs.declared.expr.Link.{Link}
use Rattle.py_ast.specs.declared.expr.Param.{Param}
use Rattle.py_ast.specs.declared.expr.Param.TheVariants as param
use Rattle.py_ast.specs.declared.expr.Subscript.{Subscript}
use Rattle.py_ast.specs.declared.expr.Subscript.TheVariants as subscript
use Rattle.py_ast.specs.declared.expr.Clause.{Clause}
use Rattle.py_ast.specs.declared.expr.Clause.TheVariants as clause
use Rattle.py_ast.specs.declared.expr.Clauses.{Clauses}
use Rattle.py_ast.specs.declared.expr.Expr.{Expr, fold-Expr}
use Rattle.py_ast.specs.declared.expr.Expr.TheOpen.{Expr-F}
use Rattle.node_tree.specs.Blocks as tree
use Rattle.py_meaning.specs.Resolved as meaning
use Rattle.py_meaning.specs.Resolved.{Context, name_in}
use Rattle.carries_base.specs.Carries.{Carrier}
use Rattle.carries_base.specs.Frames.{local_at, behind}
use Rattle.carries_values.specs.Choices.{Linked}
use Rattle.carries_values.specs.Displays as displays
use Rattle.carries_values.specs.Calls as calls
use Rattle.carried_codes.specs.Constants.{const_of}
use Rattle.carried_codes.specs.Parts.{Valued, Made, Named, part}
use Rattle.carried_codes.specs.Expressions as expressions
use Rattle.carried_codes.specs.Places as places
use Rattle.carried_codes.specs.Statements as statements
use Rattle.walk_laws.specs.States.{State, Walked, Walking, walked, and_then, made, at, valued, done}
use Rattle.walk_laws.specs.Contexts.{homes_in, seat_in, cells_in, code_in}

-- an expression, as it is evaluated and as it is assigned to
pub record Part : Type 0 where
  pub value : Context → Walking Carrier
  pub target : Context → Walking places.Place

-- what is never a target
abbrev pub nowhere : Walking places.Place
nowhere s = walked places.Nothing s

abbrev pub only : (Context → Walking Carrier) → Part
only v = record { value = v; target = λ c. nowhere }

-- a constant has no statements
abbrev pub bare : Value → Carrier
bare v = part tree.Stop (operand.Const (const_of v))

abbrev pub constant : Value → Part
constant v = only (λ c. walked (bare v))

abbrev pub text : List ℕ → Carrier
text x = bare (value.Str x)

-- Lists of parts

abbrev pub values : Context → List Part → Walking (List Carrier)
values c [] = walked []
values c (x ∷ xs) = and_then (x.value c) (λ p. made (λ ps. p ∷ ps) (values c xs))

-- operands, and then an operation on them
abbrev pub operated : ℕ → Op → Walking (List Carrier) → Walking Carrier
operated line o xs = and_then xs (λ ps. valued (expressions.operate line o ps))

abbrev pub on_one : Context → ℕ → Op → Part → Walking Carrier
on_one c line o x = and_then (x.value c) (λ p. valued (expressions.operate line o (p ∷ [])))

abbrev pub on_two : Context → ℕ → Op → Part → Part → Walking Carrier
on_two c line o x y = and_then (x.value c) (λ p. and_then (y.value c) (λ q. valued (expressions.operate line o (p ∷ q ∷ []))))

abbrev pub items : Context → List (Item Part) → Walking (List displays.Item)
items c [] = walked []
items c (item.One x ∷ xs) = and_then (x.value c) (λ p. made (λ ps. displays.One p ∷ ps) (items c xs))
items c (item.Star line x ∷ xs) = and_then (x.value c) (λ p. made (λ ps. displays.Star p ∷ ps) (items c xs))

-- targets, each with whether a star stands before it
pub record Aim : Type 0 where
  pub starred : Bool
  pub place : places.Place

abbrev pub aim : Bool → places.Place → Aim
aim starred p = record { starred = starred; place = p }

abbrev pub aims : Context → List (Item Part) → Walking (List Aim)
aims c [] = walked []
aims c (item.One x ∷ xs) = and_then (x.target c) (λ p. made (λ ps. aim false p ∷ ps) (aims c xs))
aims c (item.Star line x ∷ xs) = and_then (x.target c) (λ p. made (λ ps. aim true p ∷ ps) (aims c xs))

abbrev pub all_of : List Aim → places.Places
all_of [] = places.NoPlace
all_of (a ∷ xs) = places.Also a.place (all_of xs)

abbrev pub before_star : List Aim → places.Places
before_star [] = places.NoPlace
before_star (a ∷ xs) = if a.starred then places.NoPlace else places.Also a.place (before_star xs)

-- behind those before the star
abbrev pub from_star : ℕ → places.Places → List Aim → places.Place
from_star line before [] = places.Each line before
from_star line before (a ∷ xs) = if a.starred then places.Starred line before a.place (all_of xs) else from_star line before xs

abbrev pub assembled : ℕ → List Aim → places.Place
assembled line xs = from_star line (before_star xs) xs

abbrev pub aimed : Context → ℕ → List (Item Part) → Walking places.Place
aimed c line xs = made (assembled line) (aims c xs)

-- a tuple or a list (sections 6.2.5 and 6.15)
abbrev pub item_part : displays.Item → Carrier
item_part (displays.One p) = p
item_part (displays.Star p) = p

abbrev pub displayed : ℕ → Op → Bool → Bool → List displays.Item → ℕ → Valued
displayed line o tuple has_star ps t = if has_star then expressions.starred line tuple ps t else expressions.operate line o (map item_part ps) t

abbrev pub listed : Context → ℕ → Op → Bool → List (Item Part) → Walking Carrier
listed c line o tuple xs = and_then (items c xs) (λ ps. valued (displayed line o tuple (list_any meaning.is_star xs) ps))

abbrev pub display : ℕ → Op → Bool → List (Item Part) → Part
display line o tuple xs = record { value = λ c. listed c line o tuple xs; target = λ c. aimed c line xs }

abbrev pub entries : Context → List (Entry Part) → Walking (List displays.Entry)
entries c [] = walked []
entries c (entry.Pair x y ∷ xs) = and_then (x.value c) (λ k. and_then (y.value c) (λ p. made (λ ps. displays.Pair k p ∷ ps) (entries c xs)))
entries c (entry.Merge x ∷ xs) = and_then (x.value c) (λ p. made (λ ps. displays.Merge p ∷ ps) (entries c xs))

abbrev pub dict : Context → ℕ → List (Entry Part) → Walking Carrier
dict c line xs = and_then (entries c xs) (λ ps. valued (expressions.dict line ps))

-- Chains (section 6.10)

abbrev pub linked : Link Part → Carrier → Linked
linked x p = record { op = meaning.comparison_op x.comparison; negated = meaning.is_negated x.comparison; right = p }

abbrev pub links : Context → List (Link Part) → Walking (List Linked)
links c [] = walked []
links c (x ∷ xs) = and_then (x.right.value c) (λ p. made (λ ls. linked x p ∷ ls) (links c xs))

-- a chain without a comparison is what it begins with
abbrev pub chained : ℕ → Carrier → List Linked → Walking Carrier
chained line p [] = walked p
chained line p (l ∷ ls) = valued (expressions.chain line p (l ∷ ls))

abbrev pub chain : Context → ℕ → Part → List (Link Part) → Walking Carrier
chain c line x xs = and_then (x.value c) (λ p. and_then (links c xs) (λ ls. chained line p ls))

-- Attributes and items (sections 6.3.1 to 6.3.3)

abbrev pub attribute_value : Context → ℕ → Part → List ℕ → Walking Carrier
attribute_value c line x name = and_then (x.value c) (λ p. valued (expressions.operate line op.Attr (p ∷ text (name_in c name) ∷ [])))

abbrev pub attribute_target : Context → ℕ → Part → List ℕ → Walking places.Place
attribute_target c line x name = made (λ p. places.Attribute line p (name_in c name)) (x.value c)

abbrev pub attribute : ℕ → Part → List ℕ → Part
attribute line x name = record { value = λ c. attribute_value c line x name; target = λ c. attribute_target c line x name }

abbrev pub maybe : Context → Option Part → Walking Carrier
maybe c (Some x) = x.value c
maybe c None = walked (bare value.None)

abbrev pub tuple_of : Context → ℕ → List Part → Walking Carrier
tuple_of c line xs = operated line op.Tuple (values c xs)

-- the operands of a slice: what is sliced, and its bounds
abbrev pub slice_value : Context → ℕ → Part → Option Part → Option Part → Option Part → Walking Carrier
slice_value c line x lower upper step =
    and_then (x.value c) (λ o. and_then (maybe c lower) (λ a. and_then (maybe c upper) (λ b. and_then (maybe c step) (λ s.
    valued (expressions.operate line op.Slice (o ∷ a ∷ b ∷ s ∷ []))))))

-- what stands in the brackets, where it is no slice
abbrev pub operand_at : Context → ℕ → Subscript Part → Walking Carrier
operand_at c line (subscript.One y) = y.value c
operand_at c line (subscript.Several ys) = tuple_of c line ys
operand_at c line (subscript.Slice lower upper step) = walked (bare value.None)

abbrev pub indexed : Context → ℕ → Part → Subscript Part → Walking Carrier
indexed c line x at = and_then (x.value c) (λ o. and_then (operand_at c line at) (λ p. valued (expressions.operate line op.Index (o ∷ p ∷ []))))

abbrev pub index_place : Context → ℕ → Part → Subscript Part → Walking places.Place
index_place c line x at = and_then (x.value c) (λ o. made (places.Index line o) (operand_at c line at))

abbrev pub index_value : Context → ℕ → Part → Subscript Part → Walking Carrier
index_value c line x (subscript.One y) = indexed c line x (subscript.One y)
index_value c line x (subscript.Several ys) = indexed c line x (subscript.Several ys)
index_value c line x (subscript.Slice lower upper step) = slice_value c line x lower upper step

abbrev pub index_target : Context → ℕ → Part → Subscript Part → Walking places.Place
index_target c line x (subscript.One y) = index_place c line x (subscript.One y)
index_target c line x (subscript.Several ys) = index_place c line x (subscript.Several ys)
index_target c line x (subscript.Slice lower upper step) = nowhere

-- Calls (section 6.3.4)

abbrev pub arguments : Context → List (Argument Part) → Walking (List calls.Passed)
arguments c [] = walked []
arguments c (argument.Plain x ∷ xs) = and_then (x.value c) (λ p. made (λ ps. calls.Plain p ∷ ps) (arguments c xs))
arguments c (argument.Star x ∷ xs) = and_then (x.value c) (λ p. made (λ ps. calls.Star p ∷ ps) (arguments c xs))
arguments c (argument.Keyword line name x ∷ xs) = and_then (x.value c) (λ p. made (λ ps. calls.Key (name_in c name) p ∷ ps) (arguments c xs))
arguments c (argument.Merge x ∷ xs) = and_then (x.value c) (λ p. made (λ ps. calls.Merge p ∷ ps) (arguments c xs))

abbrev pub passed_part : calls.Passed → Carrier
passed_part (calls.Plain p) = p
passed_part (calls.Star p) = p
passed_part (calls.Key name p) = p
passed_part (calls.Merge p) = p

abbrev pub passed : ℕ → Carrier → Bool → List calls.Passed → ℕ → Valued
passed line g plain ps t = if plain then expressions.operate line op.Call (g ∷ map passed_part ps) t else expressions.call line g ps t

abbrev pub called : Context → ℕ → Carrier → List (Argument Part) → Walking Carrier
called c line g xs = and_then (arguments c xs) (λ ps. valued (passed line g (meaning.all_plain xs) ps))

abbrev pub call : Context → ℕ → Part → List (Argument Part) → Walking Carrier
call c line f xs = and_then (f.value c) (λ g. called c line g xs)

-- Functions (section 8.7)

-- the defaults of parameters before a star, and those of keyword-only parameters
pub record Defaults : Type 0 where
  pub positional : List Carrier
  pub named : List Named

abbrev pub with_default : Bool → List ℕ → Carrier → Defaults → Defaults
with_default false name v d = record { positional = v ∷ d.positional; named = d.named }
with_default true name v d = record { positional = d.positional; named = (record { name = name; part = v }) ∷ d.named }

-- behind a star, or before it
abbrev pub defaults : Context → Bool → List (Param Part) → Walking Defaults
defaults c behind [] = walked (record { positional = []; named = [] })
defaults c behind (param.Named line name (Some x) ∷ ps) =
    and_then (x.value c) (λ v. made (with_default behind (name_in c name) v) (defaults c behind ps))
defaults c behind (param.Star line name ∷ ps) = defaults c true ps
defaults c behind (other ∷ ps) = defaults c behind ps

-- as a scope begins that comes next: what is evaluated outside draws the temporaries that come next there, and no code is made yet
abbrev pub begun : State → State
begun s = record { temp = s.temp; scope = s.scope + 1; codes = [] }

-- the body of a scope draws its own temporaries
abbrev pub entered : Context → State → State
entered d s = at (behind (homes_in d)) s

-- a scope ends, with its code in front of those inside it
abbrev pub ended : State → Context → List (ParamKind × List ℕ) → tree.Block → State → ℕ → State
ended s d params b t next = record { temp = next; scope = t.scope; codes = s.codes ++ code_in d params b ∷ t.codes }

-- a scope that comes next: what is evaluated outside first, and its body, inside, behind that
abbrev pub scoped : {A : Type 0} → Context → List (ParamKind × List ℕ) → Option (List ℕ) → Walking A → (Context → Walking tree.Block) → (ℕ → A → ℕ → Valued) → Walking Carrier
scoped c params class outside body whole s =
    let a = outside (begun s) in
    let d = meaning.inside c s.scope params class in
    let b = body d (entered d a.state) in
    let v = whole s.scope a.is a.state.temp in
    walked v.part (ended s d params b.is b.state v.next)

abbrev pub function : Context → ℕ → List (Param Part) → (Context → Walking tree.Block) → Walking Carrier
function c line ps body =
    scoped c (meaning.shape c ps) c.class (defaults c false ps) body
    (λ n d t. expressions.function line (c.first + n) d.positional d.named (cells_in c n) t)

-- the body of a lambda
abbrev pub returned : Part → Context → Walking tree.Block
returned x d = and_then (x.value d) (λ p. done (statements.return_value p))

-- Comprehensions (section 6.2.4)

-- what the next temporary gets goes to a target
abbrev pub bind : Context → Part → Walking tree.Block
bind c x s =
    let p = x.target c (at (s.temp + 1) s) in
    let m = places.assign p.state.temp (operand.Temp s.temp) p.is in
    walked m.block (at m.next p.state)

-- a further clause whose parts are made: the temporary of its items, how they are bound, and what they range over; or a test
pub data Turn : Type 0 where
  Ranges : (item : ℕ) (bind : tree.Block) (over : Carrier) → Turn
  Filters : (test : Carrier) → Turn

abbrev pub turns : Context → List (Clause Part) → Walking (List Turn)
turns c [] s = walked [] s
turns c (clause.For at target over ∷ xs) s =
    and_then (bind c target) (λ i. and_then (over.value c) (λ p. made (λ ts. Ranges s.temp i p ∷ ts) (turns c xs))) s
turns c (clause.If at test ∷ xs) s = and_then (test.value c) (λ p. made (λ ts. Filters p ∷ ts) (turns c xs)) s

-- the clauses around what is collected, within the comprehension on this line
abbrev pub turned : ℕ → Turn → tree.Block → ℕ → Made
turned line (Ranges item bind over) b t = statements.for_loop line over item bind b tree.Stop t
turned line (Filters test) b t = statements.filter line test b t

abbrev pub around : ℕ → tree.Block → List Turn → Walking tree.Block
around line b [] = walked b
around line b (x ∷ xs) = and_then (around line b xs) (λ m. done (turned line x m))

abbrev pub further : Context → ℕ → tree.Block → List (Clause Part) → Walking tree.Block
further c line b xs = and_then (turns c xs) (λ ts. around line b ts)

-- what is collected into is in an operand, drawn first
abbrev pub into : Option Op → ℕ → Operand
into None t = operand.Const const.None
into (Some o) t = operand.Temp t

abbrev pub into_drawn : Option Op → ℕ → ℕ
into_drawn None t = t
into_drawn (Some o) t = t + 1

abbrev pub gathered : ℕ → Option Op → ℕ → tree.Block → tree.Block
gathered line None t b = b
gathered line (Some o) t b = statements.gather line t o b

-- behind the element, which is made: the first target stands inside, the first iterable outside, and behind it the other clauses inside.
-- The scope begins in the state s
abbrev pub closed : Context → ℕ → Option Op → Clauses Part → State → tree.Block → State → Walked Carrier
closed c line o clauses s e u =
    let d = meaning.inside c s.scope meaning.handed c.class in
    let h = homes_in d in
    let i = bind d clauses.target u in
    let x = clauses.iterable.value c (at s.temp i.state) in
    let f = further d line e clauses.more (at i.state.temp x.state) in
    let b = gathered line o (behind h) (statements.over line u.temp (local_at h 0) i.is f.is f.state.temp) in
    let v = expressions.comprehension line (c.first + s.scope) x.is (cells_in c s.scope) x.state.temp in
    walked v.part (ended s d meaning.handed b f.state v.next)

abbrev pub comprehension : Context → ℕ → Option Op → (Context → Operand → Walking tree.Block) → Clauses Part → Walking Carrier
comprehension c line o element clauses s =
    let d = meaning.inside c s.scope meaning.handed c.class in
    let t = behind (homes_in d) in
    let e = element d (into o t) (at (into_drawn o t) (begun s)) in
    closed c line o clauses s e.is e.state

abbrev pub pushed : ℕ → Part → Context → Operand → Walking tree.Block
pushed line x d to = and_then (x.value d) (λ p. done (statements.push line to p))

abbrev pub put : ℕ → Part → Part → Context → Operand → Walking tree.Block
put line x y d to = and_then (x.value d) (λ k. and_then (y.value d) (λ p. done (statements.put line to k p)))

abbrev pub emitted : ℕ → Part → Context → Operand → Walking tree.Block
emitted line x d to = and_then (x.value d) (λ p. done (statements.emit line p))

-- Expressions

abbrev pub negated : Context → ℕ → Part → Walking Carrier
negated c line x = and_then (on_one c line op.Truth x) (λ p. valued (expressions.operate line op.Not (p ∷ [])))

abbrev pub junction : Context → ℕ → Bool → Part → Part → Walking Carrier
junction c line any x y = and_then (x.value c) (λ p. and_then (y.value c) (λ q. valued (expressions.both line any p q)))

-- the test stands between the two others
abbrev pub conditional : Context → ℕ → Part → Part → Part → Walking Carrier
conditional c line test x y =
    and_then (x.value c) (λ p. and_then (test.value c) (λ o. and_then (y.value c) (λ q. valued (expressions.choose line o p q))))

abbrev pub yielded : Context → ℕ → Option Part → Walking Carrier
yielded c line x = and_then (maybe c x) (λ p. valued (expressions.yield_value line p))

abbrev pub delegated : Context → ℕ → Part → Walking Carrier
delegated c line x = and_then (x.value c) (λ p. valued (expressions.delegate line p))

abbrev pub expr_part : Expr-F Part → Part
expr_part (Expr-F.None line) = constant value.None
expr_part (Expr-F.True line) = constant (value.Bool true)
expr_part (Expr-F.False line) = constant (value.Bool false)
expr_part (Expr-F.Number line z) = constant (value.Int z)
expr_part (Expr-F.Text line x) = constant (value.Str x)
expr_part (Expr-F.Name line x) = record {
  value = λ c. valued (expressions.name line (seat_in c x));
  target = λ c. walked (places.Name line (seat_in c x));
}
expr_part (Expr-F.Tuple line xs) = display line op.Tuple true xs
expr_part (Expr-F.List line xs) = display line op.List false xs
expr_part (Expr-F.Dict line xs) = only (λ c. dict c line xs)
expr_part (Expr-F.ListComprehension line x clauses) = only (λ c. comprehension c line (Some op.List) (pushed line x) clauses)
expr_part (Expr-F.DictComprehension line x y clauses) = only (λ c. comprehension c line (Some op.Dict) (put line x y) clauses)
expr_part (Expr-F.Generator line x clauses) = only (λ c. comprehension c line None (emitted line x) clauses)
expr_part (Expr-F.Attribute line x name) = attribute line x name
expr_part (Expr-F.Index line x at) = record { value = λ c. index_value c line x at; target = λ c. index_target c line x at }
expr_part (Expr-F.Call line f xs) = only (λ c. call c line f xs)
expr_part (Expr-F.Unary line sign x) = only (λ c. on_one c line (meaning.unary_op sign) x)
expr_part (Expr-F.Binary line sign x y) = only (λ c. on_two c line (meaning.binary_op sign) x y)
expr_part (Expr-F.Compare line x xs) = only (λ c. chain c line x xs)
expr_part (Expr-F.Not line x) = only (λ c. negated c line x)
expr_part (Expr-F.Junction line j x y) = only (λ c. junction c line (meaning.is_or j) x y)
expr_part (Expr-F.Conditional line test x y) = only (λ c. conditional c line test x y)
expr_part (Expr-F.Lambda line ps x) = only (λ c. function c line ps (returned x))
expr_part (Expr-F.Yield line x) = only (λ c. yielded c line x)
expr_part (Expr-F.YieldFrom line x) = only (λ c. delegated c line x)
expr_part (Expr-F.Star line x) = x

abbrev pub expr : Expr → Part
expr = fold-Expr Part expr_part
