-- What is built: constants, names, operators, `not`, one comparison sign other than `in`, calls of the name `print` with one argument;
-- statements that are expressions, assignments to names, augmented or not, `if`, `while`, `break`, `continue` and `pass`.
use Rattle.std.specs.Prelude.{ℕ, Bool, true, false, not, ◌&&◌, if◌then◌else◌, List, [], ◌∷◌, ◌++◌, map, Option, Some, None, codes}
use Rattle.std.specs.Str.{bytes_eq}
use Rattle.py_ast.specs.Lines.{line_of}
use Rattle.py_ast.specs.declared.expr.Comparison.{Comparison}
use Rattle.py_ast.specs.declared.expr.Comparison.TheVariants as comparison
use Rattle.py_ast.specs.declared.expr.Argument.{Argument}
use Rattle.py_ast.specs.declared.expr.Argument.TheVariants as argument
use Rattle.py_ast.specs.declared.expr.Link.{Link}
use Rattle.py_ast.specs.declared.expr.Expr.{Expr, fold-Expr}
use Rattle.py_ast.specs.declared.expr.Expr.TheOpen.{Expr-F}
use Rattle.py_ast.specs.declared.stmt.Branch.{Branch}
use Rattle.py_ast.specs.declared.stmt.Stmt.{Stmt, fold-Stmt}
use Rattle.py_ast.specs.declared.stmt.Stmt.TheOpen.{Stmt-F}
use Rattle.nu_text.specs.Names.{is_among, built_in_names}

-- the first of some lines, where there is one
abbrev pub before : Option ℕ → Option ℕ → Option ℕ
before (Some line) later = Some line
before None later = later

abbrev pub first : List (Option ℕ) → Option ℕ
first [] = None
first (x ∷ xs) = before x (first xs)

-- Names

abbrev pub is_print : List ℕ → Bool
is_print x = bytes_eq x (codes "print")

-- a built-in name other than `print`, where the script binds these names
abbrev pub is_other : List (List ℕ) → List ℕ → Bool
is_other bound x = is_among built_in_names x && not (is_print x) && not (is_among bound x)

-- Expressions

-- the line of the first thing in it that is not built, where the script binds these names; and the name that it is
pub record Expression : Type 0 where
  pub unbuilt : List (List ℕ) → Option ℕ
  pub name : Option (List ℕ)

abbrev pub valued : (List (List ℕ) → Option ℕ) → Expression
valued unbuilt = record { unbuilt = unbuilt; name = None }

abbrev pub line_if : Bool → ℕ → Option ℕ
line_if true line = Some line
line_if false line = None

abbrev pub both : Expression → Expression → List (List ℕ) → Option ℕ
both x y bound = before (x.unbuilt bound) (y.unbuilt bound)

abbrev pub is_in : Comparison → Bool
is_in comparison.In = true
is_in comparison.NotIn = true
is_in other = false

abbrev pub compared : ℕ → Expression → List (Link Expression) → List (List ℕ) → Option ℕ
compared line x (link ∷ []) bound = if is_in link.comparison then Some line else both x link.right bound
compared line x links bound = Some line

abbrev pub called : ℕ → Option (List ℕ) → List (Argument Expression) → List (List ℕ) → Option ℕ
called line (Some f) (argument.Plain x ∷ []) bound = if is_print f then x.unbuilt bound else Some line
called line f xs bound = Some line

abbrev pub expr_row : Expr-F Expression → Expression
expr_row (Expr-F.None line) = valued (λ bound. None)
expr_row (Expr-F.True line) = valued (λ bound. None)
expr_row (Expr-F.False line) = valued (λ bound. None)
expr_row (Expr-F.Number line z) = valued (λ bound. None)
expr_row (Expr-F.Text line x) = valued (λ bound. None)
expr_row (Expr-F.Name line x) = record { unbuilt = λ bound. line_if (is_other bound x) line; name = Some x }
expr_row (Expr-F.Tuple line xs) = valued (λ bound. Some line)
expr_row (Expr-F.List line xs) = valued (λ bound. Some line)
expr_row (Expr-F.Dict line entries) = valued (λ bound. Some line)
expr_row (Expr-F.ListComprehension line x clauses) = valued (λ bound. Some line)
expr_row (Expr-F.DictComprehension line x y clauses) = valued (λ bound. Some line)
expr_row (Expr-F.Generator line x clauses) = valued (λ bound. Some line)
expr_row (Expr-F.Attribute line x name) = valued (λ bound. Some line)
expr_row (Expr-F.Index line x at) = valued (λ bound. Some line)
expr_row (Expr-F.Call line f xs) = valued (called line f.name xs)
expr_row (Expr-F.Unary line sign x) = valued x.unbuilt
expr_row (Expr-F.Binary line operator x y) = valued (both x y)
expr_row (Expr-F.Compare line x links) = valued (compared line x links)
expr_row (Expr-F.Not line x) = valued x.unbuilt
expr_row (Expr-F.Junction line junction x y) = valued (λ bound. Some line)
expr_row (Expr-F.Conditional line test x y) = valued (λ bound. Some line)
expr_row (Expr-F.Lambda line params x) = valued (λ bound. Some line)
expr_row (Expr-F.Yield line x) = valued (λ bound. Some line)
expr_row (Expr-F.YieldFrom line x) = valued (λ bound. Some line)
expr_row (Expr-F.Star line x) = valued (λ bound. Some line)

abbrev pub expr : Expr → Expression
expr = fold-Expr Expression expr_row

-- Targets: names

abbrev pub unless_name : ℕ → Option (List ℕ) → Option ℕ
unless_name line (Some x) = None
unless_name line None = Some line

abbrev pub target : Expr → Option ℕ
target x = unless_name (line_of x) (expr x).name

abbrev pub name_of : Option (List ℕ) → List (List ℕ)
name_of (Some x) = x ∷ []
name_of None = []

abbrev pub bound_by : Expr → List (List ℕ)
bound_by x = name_of (expr x).name

abbrev pub all_bound_by : List Expr → List (List ℕ)
all_bound_by [] = []
all_bound_by (x ∷ xs) = bound_by x ++ all_bound_by xs

-- Statements

-- the line of the first thing in it that is not built; and the names that it binds
pub record Statement : Type 0 where
  pub unbuilt : List (List ℕ) → Option ℕ
  pub binds : List (List ℕ)

abbrev pub outside : ℕ → Statement
outside line = record { unbuilt = λ bound. Some line; binds = [] }

abbrev pub nothing : Statement
nothing = record { unbuilt = λ bound. None; binds = [] }

abbrev pub all_unbuilt : List Statement → List (List ℕ) → Option ℕ
all_unbuilt [] bound = None
all_unbuilt (s ∷ ss) bound = before (s.unbuilt bound) (all_unbuilt ss bound)

abbrev pub all_binds : List Statement → List (List ℕ)
all_binds [] = []
all_binds (s ∷ ss) = s.binds ++ all_binds ss

abbrev pub branches_unbuilt : List (Branch Statement) → List Statement → List (List ℕ) → Option ℕ
branches_unbuilt [] other bound = all_unbuilt other bound
branches_unbuilt (b ∷ bs) other bound = before ((expr b.test).unbuilt bound) (before (all_unbuilt b.body bound) (branches_unbuilt bs other bound))

abbrev pub branches_bind : List (Branch Statement) → List Statement → List (List ℕ)
branches_bind [] other = all_binds other
branches_bind (b ∷ bs) other = all_binds b.body ++ branches_bind bs other

-- a branch statement has a branch
abbrev pub branching : ℕ → List (Branch Statement) → List Statement → List (List ℕ) → Option ℕ
branching line [] other bound = Some line
branching line (b ∷ bs) other bound = branches_unbuilt (b ∷ bs) other bound

abbrev pub stmt_row : Stmt-F Statement → Statement
stmt_row (Stmt-F.Expr line x) = record { unbuilt = (expr x).unbuilt; binds = [] }
stmt_row (Stmt-F.Assign line ts x) = record { unbuilt = λ bound. before (first (map target ts)) ((expr x).unbuilt bound); binds = all_bound_by ts }
stmt_row (Stmt-F.Augment line to operator x) = record { unbuilt = λ bound. before (target to) ((expr x).unbuilt bound); binds = bound_by to }
stmt_row (Stmt-F.Pass line) = nothing
stmt_row (Stmt-F.Break line) = nothing
stmt_row (Stmt-F.Continue line) = nothing
stmt_row (Stmt-F.Return line x) = outside line
stmt_row (Stmt-F.Raise line x) = outside line
stmt_row (Stmt-F.Del line to) = outside line
stmt_row (Stmt-F.Assert line test text) = outside line
stmt_row (Stmt-F.Global line names) = outside line
stmt_row (Stmt-F.Nonlocal line names) = outside line
stmt_row (Stmt-F.If line bs other) = record { unbuilt = branching line bs other; binds = branches_bind bs other }
stmt_row (Stmt-F.While line test body other) = record {
  unbuilt = λ bound. before ((expr test).unbuilt bound) (before (all_unbuilt body bound) (all_unbuilt other bound));
  binds = all_binds body ++ all_binds other;
}
stmt_row (Stmt-F.For line to over body other) = outside line
stmt_row (Stmt-F.Try line body handlers other final) = outside line
stmt_row (Stmt-F.With line managers body) = outside line
stmt_row (Stmt-F.Def line decorators name params body) = outside line
stmt_row (Stmt-F.Class line decorators name base body) = outside line

abbrev pub stmt : Stmt → Statement
stmt = fold-Stmt Statement stmt_row

-- Scripts

-- the names that the statements of a script bind
abbrev pub bound_in : List Stmt → List (List ℕ)
bound_in statements = all_binds (map stmt statements)

-- the line of the first thing in a script that is not built
abbrev pub first_unbuilt : List Stmt → Option ℕ
first_unbuilt statements = all_unbuilt (map stmt statements) (bound_in statements)
