-- The codes of a resolved script: what each construct is evaluated as. Scopes have their numbers in the order of the text.
use Rattle.std.specs.Prelude.{ℕ, ◌+◌, Bool, true, false, List, [], ◌∷◌, ◌++◌, map, length, Option, Some, None, slice_get, codes, if◌then◌else◌}
use Rattle.std.specs.List.{list_any}
use Rattle.nu_value.specs.declared.header.Header.{Header}
use Rattle.nu_value.specs.declared.header.ParamKind.{ParamKind}
use Rattle.nu_value.specs.declared.header.ParamKind.TheVariants as param_kind
use Rattle.nu_value.specs.declared.value.Value.{Value}
use Rattle.nu_value.specs.declared.value.Value.TheVariants as value
use Rattle.op_forms.specs.declared.op.Op.{Op}
use Rattle.op_forms.specs.declared.op.Op.TheVariants as op
use Rattle.py_ast.specs.Lines.{line_of}
use Rattle.py_ast.specs.declared.expr.Unary.{Unary}
use Rattle.py_ast.specs.declared.expr.Unary.TheVariants as unary
use Rattle.py_ast.specs.declared.expr.Binary.{Binary}
use Rattle.py_ast.specs.declared.expr.Binary.TheVariants as binary
use Rattle.py_ast.specs.declared.expr.Junction.{Junction}
use Rattle.py_ast.specs.declared.expr.Junction.TheVariants as junction
use Rattle.py_ast.specs.declared.expr.Comparison.{Comparison}
use Rattle.py_ast.specs.declared.expr.Comparison.TheVariants as comparison
use Rattle.py_ast.specs.declared.expr.Item.{Item}
use Rattle.py_ast.specs.declared.expr.Item.TheVariants as item
use Rattle.py_ast.specs.declared.expr.Entry.{Entry}
use Rattle.py_ast.specs.declared.expr.Entry.TheVariants as entry
use Rattle.py_ast.specs.declared.expr.Argument.{Argument}
use Rattle.py_ast.specs.declared.expr.Argument.TheVariants as argument
use Rattle.py_ast.specs.declared.expr.Link.{Link}
use Rattle.py_ast.specs.declared.expr.Param.{Param}
use Rattle.py_ast.specs.declared.expr.Param.TheVariants as param
use Rattle.py_ast.specs.declared.expr.Subscript.{Subscript}
use Rattle.py_ast.specs.declared.expr.Subscript.TheVariants as subscript
use Rattle.py_ast.specs.declared.expr.Clause.{Clause}
use Rattle.py_ast.specs.declared.expr.Clause.TheVariants as clause
use Rattle.py_ast.specs.declared.expr.Clauses.{Clauses}
use Rattle.py_ast.specs.declared.expr.Expr.{Expr, fold-Expr}
use Rattle.py_ast.specs.declared.expr.Expr.TheOpen.{Expr-F}
use Rattle.py_ast.specs.declared.scoped.Scope.{Scope}
use Rattle.py_ast.specs.declared.scoped.Scoped.{Scoped}
use Rattle.py_ast.specs.declared.stmt.Branch.{Branch}
use Rattle.py_ast.specs.declared.stmt.Handler.{Handler}
use Rattle.py_ast.specs.declared.stmt.Manager.{Manager}
use Rattle.py_ast.specs.declared.stmt.Stmt.{Stmt, fold-Stmt}
use Rattle.py_ast.specs.declared.stmt.Stmt.TheOpen.{Stmt-F}
use Rattle.py_scopes.specs.Names.{mangled}
use Rattle.py_scopes.specs.Parts.{param_of}
use Rattle.py_meaning.specs.Syntax as syntax
use Rattle.py_meaning.specs.Scopes.{home_of, own_names, local_names, free_names, cells_for, parameter_of}

-- Something, the number of the next scope, and the codes of the scopes in it
pub record Made (A : Type 0) : Type 0 where
  pub is : A
  pub next : ℕ
  pub codes : List syntax.Code

-- from the number of the next scope
abbrev pub Making : Type 0 → Type 0
Making A = ℕ → Made A

abbrev pub pure : {A : Type 0} → A → Making A
pure x n = record { is = x; next = n; codes = [] }

-- one after the other, in the order of the text
abbrev pub and_then : {A B : Type 0} → Making A → (A → Making B) → Making B
and_then m f n = let a = m n in let b = f a.is a.next in record { is = b.is; next = b.next; codes = a.codes ++ b.codes }

abbrev pub made : {A B : Type 0} → (A → B) → Making A → Making B
made f m n = let a = m n in record { is = f a.is; next = a.next; codes = a.codes }

-- Where something stands: the scopes of the script, its scope, that scope's parameters, the class whose names are mangled, and the
-- number of the code of the script's module
pub record Context : Type 0 where
  pub scopes : List Scope
  pub this : ℕ
  pub parameters : List (List ℕ)
  pub class : Option (List ℕ)
  pub first : ℕ

abbrev pub name_in : Context → List ℕ → List ℕ
name_in c x = mangled c.class x

abbrev pub home_in : Context → List ℕ → syntax.Home
home_in c x = home_of c.scopes c.this c.parameters (name_in c x)

-- an expression, as it is evaluated and as it is assigned to
pub record Part : Type 0 where
  pub value : Context → Making syntax.Expression
  pub target : Context → Making syntax.Target

-- what is never a target
abbrev pub valued : (Context → Making syntax.Expression) → Part
valued v = record { value = v; target = λ c. pure syntax.ToNothing }

abbrev pub constant : Value → Part
constant v = valued (λ c. pure (syntax.Constant v))

abbrev pub none : syntax.Expression
none = syntax.Constant value.None

abbrev pub text : List ℕ → syntax.Expression
text x = syntax.Constant (value.Str x)

-- Lists of parts

abbrev pub values : Context → List Part → Making syntax.Expressions
values c [] = pure syntax.NoMore
values c (x ∷ xs) = and_then (x.value c) (λ y. made (syntax.More y) (values c xs))

abbrev pub operation : ℕ → Op → List Part → Part
operation line o xs = valued (λ c. made (syntax.Operation line o) (values c xs))

abbrev pub is_star : {A : Type 0} → Item A → Bool
is_star (item.One x) = false
is_star (item.Star line x) = true

abbrev pub inner : {A : Type 0} → Item A → A
inner (item.One x) = x
inner (item.Star line x) = x

abbrev pub items : Context → List (Item Part) → Making syntax.Items
items c [] = pure syntax.NoItem
items c (item.One x ∷ xs) = and_then (x.value c) (λ y. made (syntax.Single y) (items c xs))
items c (item.Star line x ∷ xs) = and_then (x.value c) (λ y. made (syntax.Spread y) (items c xs))

abbrev pub targets : Context → List Part → Making syntax.Targets
targets c [] = pure syntax.NoTarget
targets c (x ∷ xs) = and_then (x.target c) (λ t. made (syntax.AlsoTo t) (targets c xs))

abbrev pub before_star : {A : Type 0} → List (Item A) → List A
before_star [] = []
before_star (item.One x ∷ xs) = x ∷ before_star xs
before_star (item.Star line x ∷ xs) = []

abbrev pub from_star : {A : Type 0} → List (Item A) → List A
from_star [] = []
from_star (item.One x ∷ xs) = from_star xs
from_star (item.Star line x ∷ xs) = x ∷ map inner xs

-- targets, of which one may have a star
abbrev pub many : Context → ℕ → List Part → List Part → Making syntax.Target
many c line before [] = made (syntax.ToEach line) (targets c before)
many c line before (star ∷ behind) =
    and_then (targets c before) (λ b. and_then (star.target c) (λ s. made (syntax.ToStarred line b s) (targets c behind)))

-- a tuple or a list (sections 6.2.5 and 6.15)
abbrev pub display : ℕ → Op → Bool → List (Item Part) → Part
display line o tuple xs = record {
  value = λ c. if list_any is_star xs then made (syntax.Starred line tuple) (items c xs) else made (syntax.Operation line o) (values c (map inner xs));
  target = λ c. many c line (before_star xs) (from_star xs);
}

abbrev pub entries : Context → List (Entry Part) → Making syntax.Entries
entries c [] = pure syntax.NoEntry
entries c (entry.Pair x y ∷ xs) = and_then (x.value c) (λ k. and_then (y.value c) (λ v. made (syntax.Pair k v) (entries c xs)))
entries c (entry.Merge x ∷ xs) = and_then (x.value c) (λ v. made (syntax.Merge v) (entries c xs))

-- Operators

abbrev pub unary_op : Unary → Op
unary_op unary.Plus = op.Pos
unary_op unary.Minus = op.Neg
unary_op unary.Invert = op.Inv

abbrev pub binary_op : Binary → Op
binary_op binary.BitOr = op.Or
binary_op binary.BitXor = op.Xor
binary_op binary.BitAnd = op.And
binary_op binary.LeftShift = op.LShift
binary_op binary.RightShift = op.RShift
binary_op binary.Add = op.Add
binary_op binary.Subtract = op.Sub
binary_op binary.Multiply = op.Mul
binary_op binary.FloorDivide = op.FloorDiv
binary_op binary.Remainder = op.Mod
binary_op binary.Power = op.Pow

-- in place (section 7.2.1)
abbrev pub augmented_op : Binary → Op
augmented_op binary.Add = op.IAdd
augmented_op binary.Multiply = op.IMul
augmented_op other = binary_op other

abbrev pub comparison_op : Comparison → Op
comparison_op comparison.Less = op.Lt
comparison_op comparison.Greater = op.Gt
comparison_op comparison.LessEqual = op.Le
comparison_op comparison.GreaterEqual = op.Ge
comparison_op comparison.Equal = op.Eq
comparison_op comparison.NotEqual = op.Ne
comparison_op comparison.In = op.In
comparison_op comparison.NotIn = op.In
comparison_op comparison.Is = op.Is
comparison_op comparison.IsNot = op.IsNot

abbrev pub is_negated : Comparison → Bool
is_negated comparison.NotIn = true
is_negated other = false

abbrev pub is_or : Junction → Bool
is_or junction.Or = true
is_or junction.And = false

abbrev pub links : Context → Link Part → List (Link Part) → Making syntax.Links
links c x [] = made (syntax.LastLink (comparison_op x.comparison) (is_negated x.comparison)) (x.right.value c)
links c x (y ∷ ys) = and_then (x.right.value c) (λ v. made (syntax.Link (comparison_op x.comparison) (is_negated x.comparison) v) (links c y ys))

abbrev pub compared : Context → ℕ → syntax.Expression → List (Link Part) → Making syntax.Expression
compared c line first [] = pure first
compared c line first (x ∷ xs) = made (syntax.Comparison line first) (links c x xs)

-- Attributes and items (sections 6.3.1 to 6.3.3)

abbrev pub attribute : ℕ → Part → List ℕ → Part
attribute line x name = record {
  value = λ c. made (λ o. syntax.Operation line op.Attr (syntax.More o (syntax.More (text (name_in c name)) syntax.NoMore))) (x.value c);
  target = λ c. made (λ o. syntax.ToAttribute line o (name_in c name)) (x.value c);
}

abbrev pub maybe : Context → Option Part → Making syntax.Expression
maybe c (Some x) = x.value c
maybe c None = pure none

abbrev pub index_value : Context → ℕ → Part → Subscript Part → Making syntax.Expression
index_value c line x (subscript.One y) = made (syntax.Operation line op.Index) (values c (x ∷ y ∷ []))
index_value c line x (subscript.Several ys) =
    and_then (x.value c) (λ o. made (λ vs. syntax.Operation line op.Index (syntax.More o (syntax.More (syntax.Operation line op.Tuple vs) syntax.NoMore))) (values c ys))
index_value c line x (subscript.Slice lower upper step) =
    and_then (x.value c) (λ o. and_then (maybe c lower) (λ a. and_then (maybe c upper) (λ b.
    made (λ s. syntax.Operation line op.Slice (syntax.More o (syntax.More a (syntax.More b (syntax.More s syntax.NoMore))))) (maybe c step))))

abbrev pub index_target : Context → ℕ → Part → Subscript Part → Making syntax.Target
index_target c line x (subscript.One y) = and_then (x.value c) (λ o. made (syntax.ToIndex line o) (y.value c))
index_target c line x (subscript.Several ys) =
    and_then (x.value c) (λ o. made (λ vs. syntax.ToIndex line o (syntax.Operation line op.Tuple vs)) (values c ys))
index_target c line x (subscript.Slice lower upper step) = pure syntax.ToNothing

-- Calls (section 6.3.4)

abbrev pub is_plain : {A : Type 0} → Argument A → Bool
is_plain (argument.Plain x) = true
is_plain other = false

abbrev pub positional : Context → List (Argument Part) → Making syntax.Expressions
positional c [] = pure syntax.NoMore
positional c (argument.Plain x ∷ xs) = and_then (x.value c) (λ v. made (syntax.More v) (positional c xs))
positional c (other ∷ xs) = positional c xs

abbrev pub arguments : Context → List (Argument Part) → Making syntax.Arguments
arguments c [] = pure syntax.NoArgument
arguments c (argument.Plain x ∷ xs) = and_then (x.value c) (λ v. made (syntax.Plain v) (arguments c xs))
arguments c (argument.Star x ∷ xs) = and_then (x.value c) (λ v. made (syntax.Star v) (arguments c xs))
arguments c (argument.Keyword line name x ∷ xs) = and_then (x.value c) (λ v. made (syntax.Keyword (name_in c name) v) (arguments c xs))
arguments c (argument.Merge x ∷ xs) = and_then (x.value c) (λ v. made (syntax.DoubleStar v) (arguments c xs))

abbrev pub all_plain : {A : Type 0} → List (Argument A) → Bool
all_plain [] = true
all_plain (x ∷ xs) = if is_plain x then all_plain xs else false

abbrev pub call : Context → ℕ → Part → List (Argument Part) → Making syntax.Expression
call c line f xs =
    and_then (f.value c) (λ g. if all_plain xs then made (λ vs. syntax.Operation line op.Call (syntax.More g vs)) (positional c xs) else made (syntax.Call line g) (arguments c xs))

-- Functions (section 8.7)

abbrev pub is_slash : {A : Type 0} → Param A → Bool
is_slash (param.Slash line) = true
is_slash other = false

-- the kinds and names of parameters, from one on before which the kind is this
abbrev pub kinds : {A : Type 0} → ParamKind → List (Param A) → List (ParamKind × List ℕ)
kinds k [] = []
kinds k (param.Named line name default ∷ ps) = (k, name) ∷ kinds k ps
kinds k (param.Slash line ∷ ps) = kinds param_kind.Plain ps
kinds k (param.Star line (Some name) ∷ ps) = (param_kind.Star, name) ∷ kinds param_kind.Key ps
kinds k (param.Star line None ∷ ps) = kinds param_kind.Key ps
kinds k (param.DoubleStar line name ∷ ps) = (param_kind.Double, name) ∷ kinds k ps

abbrev pub shape : {A : Type 0} → Context → List (Param A) → List (ParamKind × List ℕ)
shape c ps = map (λ p. (p.0, name_in c p.1)) (kinds (if list_any is_slash ps then param_kind.Only else param_kind.Plain) ps)

-- the defaults before a star, and those of keyword-only parameters
abbrev pub defaults : Context → List (Param Part) → Making syntax.Expressions
defaults c [] = pure syntax.NoMore
defaults c (param.Named line name (Some x) ∷ ps) = and_then (x.value c) (λ v. made (syntax.More v) (defaults c ps))
defaults c (param.Star line name ∷ ps) = pure syntax.NoMore
defaults c (other ∷ ps) = defaults c ps

abbrev pub behind : {A : Type 0} → List (Param A) → List (Param A)
behind [] = []
behind (param.Star line name ∷ ps) = ps
behind (other ∷ ps) = behind ps

abbrev pub keywords : Context → List (Param Part) → Making syntax.Keywords
keywords c [] = pure syntax.NoKeyword
keywords c (param.Named line name (Some x) ∷ ps) = and_then (x.value c) (λ v. made (syntax.Default (name_in c name) v) (keywords c ps))
keywords c (other ∷ ps) = keywords c ps

pub record Defaults : Type 0 where
  pub positional : syntax.Expressions
  pub named : syntax.Keywords

abbrev pub all_defaults : Context → List (Param Part) → Making Defaults
all_defaults c ps = and_then (defaults c ps) (λ xs. made (λ ks. record { positional = xs; named = ks }) (keywords c (behind ps)))

-- Codes

abbrev pub header : Option Scope → List (ParamKind × List ℕ) → Header
header (Some scope) params = record { scope = scope.name; params = params; generator = scope.is_generator; line = scope.line }
header None params = record { scope = []; params = params; generator = false; line = 1 }

-- inside a scope with these parameters
abbrev pub inside : Context → ℕ → List (ParamKind × List ℕ) → Option (List ℕ) → Context
inside c scope params class = record { scopes = c.scopes; this = scope; parameters = map (λ p. p.1) params; class = class; first = c.first }

abbrev pub code : Context → List (ParamKind × List ℕ) → syntax.Body → syntax.Code
code c params body = record {
  header = header (slice_get c.scopes c.this) params;
  locals = length (local_names c.scopes c.this c.parameters);
  owns = map (parameter_of c.parameters) (own_names c.scopes c.this);
  frees = length (free_names c.scopes c.this);
  body = body;
}

-- a scope that comes next: what is evaluated outside first, and its body, inside, behind that
abbrev pub scoped : {A B : Type 0} → Context → List (ParamKind × List ℕ) → Option (List ℕ) → Making A → (Context → Making syntax.Body) → (ℕ → A → B) → Making B
scoped c params class outside body whole n =
    let a = outside (n + 1) in let d = inside c n params class in let b = body d a.next in
    record { is = whole n a.is; next = b.next; codes = code d params b.is ∷ a.codes ++ b.codes }

abbrev pub function : Context → ℕ → List (Param Part) → (Context → Making syntax.Body) → Making syntax.Expression
function c line ps body =
    scoped c (shape c ps) c.class (all_defaults c ps) body
    (λ n d. syntax.Function line (c.first + n) d.positional d.named (cells_for c.scopes c.this n))

-- the one parameter of a comprehension, its first iterator, and of a class block, its names
abbrev pub handed : List (ParamKind × List ℕ)
handed = (param_kind.Only, codes ".0") ∷ []

-- Comprehensions (section 6.2.4)

abbrev pub further : Context → List (Clause Part) → syntax.Turns → Making syntax.Turns
further c [] turns = pure turns
further c (clause.For line target over ∷ xs) turns =
    and_then (target.target c) (λ t. and_then (over.value c) (λ o. made (syntax.Ranging t o) (further c xs turns)))
further c (clause.If line test ∷ xs) turns = and_then (test.value c) (λ v. made (syntax.Filter v) (further c xs turns))

-- the element and the first target stand inside, the first iterable outside, and behind it the other clauses inside
abbrev pub comprehension : Context → ℕ → Option Op → (Context → Making syntax.Turns) → Clauses Part → Making syntax.Expression
comprehension c line into element clauses n =
    let d = inside c n handed c.class in
    let e = element d (n + 1) in
    let t = clauses.target.target d e.next in
    let x = clauses.iterable.value c t.next in
    let f = further d clauses.more e.is x.next in
    record {
      is = syntax.Comprehension line (c.first + n) x.is (cells_for c.scopes c.this n);
      next = f.next;
      codes = code d handed (syntax.Collect line into t.is f.is) ∷ e.codes ++ t.codes ++ x.codes ++ f.codes;
    }

-- Expressions (chapter 6)

abbrev pub expr_part : Expr-F Part → Part
expr_part (Expr-F.None line) = constant value.None
expr_part (Expr-F.True line) = constant (value.Bool true)
expr_part (Expr-F.False line) = constant (value.Bool false)
expr_part (Expr-F.Number line z) = constant (value.Int z)
expr_part (Expr-F.Text line x) = constant (value.Str x)
expr_part (Expr-F.Name line x) = record { value = λ c. pure (syntax.Name line (home_in c x)); target = λ c. pure (syntax.ToName line (home_in c x)) }
expr_part (Expr-F.Tuple line xs) = display line op.Tuple true xs
expr_part (Expr-F.List line xs) = display line op.List false xs
expr_part (Expr-F.Dict line xs) = valued (λ c. made (syntax.Dict line) (entries c xs))
expr_part (Expr-F.ListComprehension line x clauses) = valued (λ c. comprehension c line (Some op.List) (λ d. made syntax.Push (x.value d)) clauses)
expr_part (Expr-F.DictComprehension line x y clauses) =
    valued (λ c. comprehension c line (Some op.Dict) (λ d. and_then (x.value d) (λ k. made (syntax.Put k) (y.value d))) clauses)
expr_part (Expr-F.Generator line x clauses) = valued (λ c. comprehension c line None (λ d. made syntax.Emit (x.value d)) clauses)
expr_part (Expr-F.Attribute line x name) = attribute line x name
expr_part (Expr-F.Index line x at) = record { value = λ c. index_value c line x at; target = λ c. index_target c line x at }
expr_part (Expr-F.Call line f xs) = valued (λ c. call c line f xs)
expr_part (Expr-F.Unary line sign x) = operation line (unary_op sign) (x ∷ [])
expr_part (Expr-F.Binary line sign x y) = operation line (binary_op sign) (x ∷ y ∷ [])
expr_part (Expr-F.Compare line x xs) = valued (λ c. and_then (x.value c) (λ v. compared c line v xs))
expr_part (Expr-F.Not line x) = valued (λ c. made (λ v. syntax.Operation line op.Not (syntax.More (syntax.Operation line op.Truth (syntax.More v syntax.NoMore)) syntax.NoMore)) (x.value c))
expr_part (Expr-F.Junction line j x y) = valued (λ c. and_then (x.value c) (λ v. made (syntax.Junction line (is_or j) v) (y.value c)))
expr_part (Expr-F.Conditional line test x y) =
    valued (λ c. and_then (x.value c) (λ v. and_then (test.value c) (λ t. made (syntax.Conditional line t v) (y.value c))))
expr_part (Expr-F.Lambda line ps x) = valued (λ c. function c line ps (λ d. made syntax.Value' (x.value d)))
expr_part (Expr-F.Yield line x) = valued (λ c. made (syntax.Yield line) (maybe c x))
expr_part (Expr-F.YieldFrom line x) = valued (λ c. made (syntax.YieldFrom line) (x.value c))
expr_part (Expr-F.Star line x) = x

abbrev pub expr : Expr → Part
expr = fold-Expr Part expr_part

-- Statements (chapters 7 and 8)

-- a statement, where it stands
abbrev pub Piece : Type 0
Piece = Context → Making syntax.Statement

abbrev pub block : Context → List Piece → Making syntax.Block
block c [] = pure syntax.Done
block c (x ∷ xs) = and_then (x c) (λ s. made (syntax.Then s) (block c xs))

abbrev pub value_of : Context → Option Expr → Making syntax.Expression
value_of c (Some x) = (expr x).value c
value_of c None = pure none

abbrev pub texts : Context → Option Expr → Making syntax.Expressions
texts c (Some x) = values c (expr x ∷ [])
texts c None = pure syntax.NoMore

abbrev pub target_of : Context → Option Expr → Making syntax.Targets
target_of c (Some x) = targets c (expr x ∷ [])
target_of c None = pure syntax.NoTarget

abbrev pub alone : syntax.Statement → syntax.Block
alone s = syntax.Then s syntax.Done

-- an `elif` is an `if` in the `else`, with its own line
abbrev pub branches : Context → List (Branch Piece) → Making syntax.Block → Making syntax.Block
branches c [] other = other
branches c (b ∷ bs) other =
    and_then ((expr b.test).value c) (λ t. and_then (block c b.body) (λ body. made (λ o. alone (syntax.If b.line t body o)) (branches c bs other)))

abbrev pub first_of : syntax.Block → syntax.Statement
first_of syntax.Done = syntax.Pass
first_of (syntax.Then s rest) = s

abbrev pub bound : Context → ℕ → Option (List ℕ) → Option syntax.Caught
bound c line (Some name) = Some (record { line = line; home = home_in c name })
bound c line None = None

abbrev pub clause_made : Context → Handler Piece → Option Expr → Making syntax.Handlers → Making syntax.Handlers
clause_made c h None others = and_then (block c h.body) (λ body. made (λ o. syntax.Bare body) others)
clause_made c h (Some x) others =
    and_then ((expr x).value c) (λ v. and_then (block c h.body) (λ body. made (syntax.Handler (line_of x) v (bound c h.line h.name) body) others))

abbrev pub handlers : Context → List (Handler Piece) → Making syntax.Handlers
handlers c [] = pure syntax.NoHandler
handlers c (h ∷ hs) = clause_made c h h.class (handlers c hs)

-- the body of a `try`, with its clauses, if there are any. An `else` stands behind clauses alone; without them it would follow the body
abbrev pub guarded : Context → List Piece → List (Handler Piece) → List Piece → Making syntax.Block
guarded c body [] other = block c (body ++ other)
guarded c body (h ∷ hs) other =
    and_then (block c body) (λ b. and_then (handlers c (h ∷ hs)) (λ k. made (λ o. alone (syntax.Try b k o)) (block c other)))

-- and the clause that always runs, if there is one
abbrev pub finished : Context → Making syntax.Block → List Piece → Making syntax.Statement
finished c body [] = made first_of body
finished c body (x ∷ xs) = and_then body (λ b. made (syntax.Finally b) (block c (x ∷ xs)))

-- several items are nested
abbrev pub managers : Context → List Manager → Making syntax.Block → Making syntax.Block
managers c [] body = body
managers c (m ∷ ms) body =
    and_then ((expr m.value).value c) (λ v. and_then (target_of c m.target) (λ t. made (λ b. alone (syntax.With (line_of m.value) v t b)) (managers c ms body)))

abbrev pub decorators : Context → List Expr → Making (List syntax.Decorator)
decorators c [] = pure []
decorators c (x ∷ xs) = and_then ((expr x).value c) (λ v. made (λ ds. (record { line = line_of x; is = v }) ∷ ds) (decorators c xs))

abbrev pub definition : Context → ℕ → List Expr → List ℕ → List (Param Expr) → List Piece → Making syntax.Statement
definition c line ds name ps body =
    and_then (decorators c ds) (λ decorated. made (λ f. syntax.Define line decorated f (home_in c name))
    (function c line (map (param_of expr) ps) (λ d. made syntax.Statements (block d body))))

abbrev pub base_of : Context → ℕ → Option Expr → Making syntax.Expression
base_of c line (Some x) = (expr x).value c
base_of c line None = pure (syntax.Operation line op.Native (syntax.More (text (codes "object")) syntax.NoMore))

abbrev pub class : Context → ℕ → List Expr → List ℕ → Option Expr → List Piece → Making syntax.Statement
class c line ds name base body =
    and_then (decorators c ds) (λ decorated. scoped c handed (Some name) (base_of c line base) (λ d. made syntax.Statements (block d body))
    (λ n b. syntax.Class line decorated name b (c.first + n) (cells_for c.scopes c.this n) (home_in c name)))

abbrev pub stmt_piece : Stmt-F Piece → Piece
stmt_piece (Stmt-F.Expr line x) = λ c. made syntax.Evaluate ((expr x).value c)
stmt_piece (Stmt-F.Assign line ts x) = λ c. and_then (targets c (map expr ts)) (λ t. made (syntax.Assign t) ((expr x).value c))
stmt_piece (Stmt-F.Augment line to sign x) =
    λ c. and_then ((expr to).target c) (λ t. made (syntax.Augment line (augmented_op sign) t) ((expr x).value c))
stmt_piece (Stmt-F.Pass line) = λ c. pure syntax.Pass
stmt_piece (Stmt-F.Break line) = λ c. pure syntax.Break
stmt_piece (Stmt-F.Continue line) = λ c. pure syntax.Continue
stmt_piece (Stmt-F.Return line x) = λ c. made syntax.Return (value_of c x)
stmt_piece (Stmt-F.Raise line (Some x)) = λ c. made (syntax.Raise line) ((expr x).value c)
stmt_piece (Stmt-F.Raise line None) = λ c. pure syntax.Reraise
stmt_piece (Stmt-F.Del line x) = λ c. made syntax.Delete ((expr x).target c)
stmt_piece (Stmt-F.Assert line x y) = λ c. and_then ((expr x).value c) (λ t. made (syntax.Assert line t) (texts c y))
stmt_piece (Stmt-F.Global line names) = λ c. pure syntax.Pass
stmt_piece (Stmt-F.Nonlocal line names) = λ c. pure syntax.Pass
stmt_piece (Stmt-F.If line bs other) = λ c. made first_of (branches c bs (block c other))
stmt_piece (Stmt-F.While line x body other) =
    λ c. and_then ((expr x).value c) (λ t. and_then (block c body) (λ b. made (syntax.While line t b) (block c other)))
stmt_piece (Stmt-F.For line to over body other) =
    λ c. and_then ((expr to).target c) (λ t. and_then ((expr over).value c) (λ x. and_then (block c body) (λ b. made (syntax.For line t x b) (block c other))))
stmt_piece (Stmt-F.Try line body hs other final) = λ c. finished c (guarded c body hs other) final
stmt_piece (Stmt-F.With line ms body) = λ c. made first_of (managers c ms (block c body))
stmt_piece (Stmt-F.Def line ds name ps body) = λ c. definition c line ds name ps body
stmt_piece (Stmt-F.Class line ds name base body) = λ c. class c line ds name base body

abbrev pub stmt : Stmt → Piece
stmt = fold-Stmt Piece stmt_piece

-- Scripts

-- the module is scope 0
abbrev pub module_context : List Scope → ℕ → Context
module_context scopes first = record { scopes = scopes; this = 0; parameters = []; class = None; first = first }

abbrev pub module_codes : Context → Made syntax.Block → List syntax.Code
module_codes c m = code c [] (syntax.Statements m.is) ∷ m.codes

-- the codes of a script, of which the module's has this number
abbrev pub codes_of : ℕ → Scoped → List syntax.Code
codes_of first s = module_codes (module_context s.scopes first) (block (module_context s.scopes first) (map stmt s.script.statements) 1)
