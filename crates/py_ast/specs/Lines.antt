-- The line of an expression's first token.
use Rattle.std.specs.Prelude.{ℕ}
use Rattle.py_ast.specs.declared.expr.Expr.{Expr, out-Expr}
use Rattle.py_ast.specs.declared.expr.Expr.TheOpen.{Expr-F}

abbrev pub line_at : {A : Type 0} → Expr-F A → ℕ
line_at (Expr-F.None line) = line
line_at (Expr-F.True line) = line
line_at (Expr-F.False line) = line
line_at (Expr-F.Number line value) = line
line_at (Expr-F.Text line text) = line
line_at (Expr-F.Name line name) = line
line_at (Expr-F.Tuple line items) = line
line_at (Expr-F.List line items) = line
line_at (Expr-F.Dict line entries) = line
line_at (Expr-F.ListComprehension line element clauses) = line
line_at (Expr-F.DictComprehension line key value clauses) = line
line_at (Expr-F.Generator line element clauses) = line
line_at (Expr-F.Attribute line value name) = line
line_at (Expr-F.Index line value subscript) = line
line_at (Expr-F.Call line function arguments) = line
line_at (Expr-F.Unary line sign operand) = line
line_at (Expr-F.Binary line operator left right) = line
line_at (Expr-F.Compare line first links) = line
line_at (Expr-F.Not line operand) = line
line_at (Expr-F.Junction line junction left right) = line
line_at (Expr-F.Conditional line test first second) = line
line_at (Expr-F.Lambda line params body) = line
line_at (Expr-F.Yield line value) = line
line_at (Expr-F.YieldFrom line value) = line
line_at (Expr-F.Star line value) = line

-- the line of an expression
abbrev pub line_of : Expr → ℕ
line_of x = line_at (out-Expr x)
