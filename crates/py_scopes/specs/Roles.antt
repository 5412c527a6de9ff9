-- Which expressions are misplaced, by their roles: the code tests it before it goes into them. No public contract rests
-- on these.
use Rattle.std.specs.Prelude.{Bool, true, false, not, ◌&&◌}
use Rattle.py_ast.specs.declared.expr.Expr.{Expr, out-Expr}
use Rattle.py_ast.specs.declared.expr.Expr.TheOpen.{Expr-F}
use Rattle.py_scopes.specs.declared.survey.Role.{Role}
use Rattle.py_scopes.specs.Survey.{is_value, is_single, is_slice}

abbrev pub misplaced_at : {A : Type 0} → Role → Expr-F A → Bool
misplaced_at wanted (Expr-F.Name line x) = false
misplaced_at wanted (Expr-F.Attribute line x name) = false
misplaced_at wanted (Expr-F.Tuple line xs) = is_single wanted
misplaced_at wanted (Expr-F.List line xs) = is_single wanted
misplaced_at wanted (Expr-F.Index line x at) = is_slice at && not (is_value wanted)
misplaced_at wanted (Expr-F.Star line x) = true
misplaced_at wanted _ = not (is_value wanted)

abbrev pub is_misplaced : Role → Expr → Bool
is_misplaced wanted x = misplaced_at wanted (out-Expr x)
