-- What a lambda and a function add, by their parameters one by one; and a lambda as it is walked.
use Rattle.std.proofs.Common.{◌≡◌, refl, ap, ◌∙◌, sym, ℕ, Bool, not, List, [], ◌∷◌, map, Some, None, Result, Ok, Err}
use Rattle.std.specs.Prelude.{OnOk}
use Rattle.py_ast.specs.Lines.{line_at, line_of}
use Rattle.py_ast.specs.declared.expr.Param.{Param}
use Rattle.py_ast.specs.declared.expr.Param.TheVariants as param
use Rattle.py_ast.specs.declared.expr.Expr.{Expr, fold-roll-Expr, map-Expr, out-Expr}
use Rattle.py_ast.specs.declared.expr.Expr.TheOpen.{Expr-F}
use Rattle.py_ast.specs.declared.expr.Expr.TheVariants as e
use Rattle.py_ast.specs.declared.expr.Expr.TheVariants.{rolls-Lambda, outs-Lambda}
use Rattle.py_ast.specs.declared.stmt.Stmt.{Stmt, fold-roll-Stmt}
use Rattle.py_ast.specs.declared.stmt.Stmt.TheOpen.{Stmt-F}
use Rattle.py_ast.specs.declared.stmt.Stmt.TheVariants as st
use Rattle.py_ast.specs.declared.stmt.Stmt.TheVariants.{rolls-Def}
use Rattle.py_ast.specs.declared.scoped.ScopeKind.TheVariants as kind
use Rattle.py_scopes.specs.declared.survey.Role.{Role}
use Rattle.py_scopes.specs.declared.survey.Role.TheVariants as role
use Rattle.py_scopes.specs.declared.survey.Place.{Place}
use Rattle.py_scopes.specs.declared.survey.Survey.{Survey}
use Rattle.py_scopes.specs.Parts.{param_of}
use Rattle.py_scopes.specs.Survey.{Adds, Part, expr, expr_adds, stmt, stmt_adds, stmts, decorated, function, own_name, plain, all, is_value, misplaced_if, enter, inside, param_adds}
use Rattle.py_scopes.specs.Roles.{misplaced_at, is_misplaced}

abbrev with_param : Param Part → Expr-F Part → Expr-F Part
with_param p (Expr-F.Lambda line ps body) = Expr-F.Lambda line (p ∷ ps) body
with_param p y = y

layer : (line : ℕ) (ps : List (Param Expr)) (body : Expr)
    → map-Expr Expr Part expr (Expr-F.Lambda line ps body) ≡ Expr-F.Lambda line (map (param_of expr) ps) (expr body)
layer line [] body = refl
layer line (param.Named l x None ∷ ps) body = ap (with_param (param.Named l x None)) (layer line ps body)
layer line (param.Named l x (Some d) ∷ ps) body = ap (with_param (param.Named l x (Some (expr d)))) (layer line ps body)
layer line (param.Slash l ∷ ps) body = ap (with_param (param.Slash l)) (layer line ps body)
layer line (param.Star l x ∷ ps) body = ap (with_param (param.Star l x)) (layer line ps body)
layer line (param.DoubleStar l x ∷ ps) body = ap (with_param (param.DoubleStar l x)) (layer line ps body)

pub lambda_adds : (line : ℕ) (ps : List (Param Expr)) (body : Expr)
    → expr (e.Lambda line ps body) ≡ plain line (function line kind.Lambda (own_name kind.Lambda) (map (param_of expr) ps) (expr body role.Value))
lambda_adds line ps body = ap expr (sym (rolls-Lambda line ps body)) ∙ fold-roll-Expr Part expr_adds (Expr-F.Lambda line ps body) ∙ ap expr_adds (layer line ps body)

pub lambda_walked : {A E : Type 0} (o : Result A E) (line : ℕ) (ps : List (Param Expr)) (body x : Expr) (wanted : Role) (place own : Place) (wrong : Bool) (at : ℕ) (s a b d r : Survey)
    → x ≡ e.Lambda line ps body → wrong ≡ is_misplaced wanted x → at ≡ line_of x → a ≡ misplaced_if wrong at place s
    → b ≡ enter line kind.Lambda (own_name kind.Lambda) place a → own ≡ inside kind.Lambda place a → d ≡ all (map (param_adds own) (map (param_of expr) ps)) place b
    → OnOk o (r ≡ expr body role.Value own d) → OnOk o (r ≡ expr x wanted place s)
lambda_walked (Err y) line ps body x wanted place own wrong at s a b d r is w l first second around third fourth = fourth
lambda_walked (Ok y) line ps body x wanted place own wrong at s a b d r is w l first second around third fourth =
    let out = ap out-Expr is ∙ outs-Lambda line ps body in
    let qs = map (param_of expr) ps in
    let adds : Part = plain line (function line kind.Lambda (own_name kind.Lambda) qs (expr body role.Value)) in
    let before : a ≡ misplaced_if (not (is_value wanted)) line place s =
    first ∙ ap (λ wrong. misplaced_if wrong at place s) (w ∙ ap (misplaced_at wanted) out) ∙ ap (λ line. misplaced_if (not (is_value wanted)) line place s) (l ∙ ap line_at out) in
    let walked : r ≡ expr body role.Value own (all (map (param_adds own) qs) place (enter line kind.Lambda (own_name kind.Lambda) place a)) =
    fourth ∙ ap (expr body role.Value own) (third ∙ ap (all (map (param_adds own) qs) place) second) in
    let entered : r ≡ function line kind.Lambda (own_name kind.Lambda) qs (expr body role.Value) place a =
    walked ∙ ap (λ own. expr body role.Value own (all (map (param_adds own) qs) place (enter line kind.Lambda (own_name kind.Lambda) place a))) around in
    let whole : r ≡ adds wanted place s = entered ∙ ap (function line kind.Lambda (own_name kind.Lambda) qs (expr body role.Value) place) before in
    whole ∙ ap (λ part. part wanted place s) (sym (ap expr is ∙ lambda_adds line ps body))

pub def_adds : (line : ℕ) (decorators : List Expr) (x : List ℕ) (ps : List (Param Expr)) (body : List Stmt)
    → stmt (st.Def line decorators x ps body) ≡ (λ place s. function line kind.Function x (map (param_of expr) ps) (stmts body) place (decorated line decorators x place s))
def_adds line decorators x ps body = ap stmt (sym (rolls-Def line decorators x ps body)) ∙ fold-roll-Stmt Adds stmt_adds (Stmt-F.Def line decorators x ps body)
