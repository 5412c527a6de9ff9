-- Statements, and so scripts, keep scopes nested.
use Rattle.std.proofs.Common.{ℕ, Bool, List, [], ◌∷◌, map, Option, Some, None, refl, sym, subst, arith}
use Rattle.py_ast.specs.declared.expr.Param.{Param}
use Rattle.py_ast.specs.declared.expr.Param.TheVariants as param
use Rattle.py_ast.specs.declared.expr.Expr.{Expr}
use Rattle.py_ast.specs.declared.stmt.Branch.{Branch}
use Rattle.py_ast.specs.declared.stmt.Handler.{Handler}
use Rattle.py_ast.specs.declared.stmt.Manager.{Manager}
use Rattle.py_ast.specs.declared.stmt.Declared.{Declared}
use Rattle.py_ast.specs.declared.stmt.Stmt.{Stmt, fold-roll-Stmt, map-Stmt, roll-Stmt, ind-Stmt}
use Rattle.py_ast.specs.declared.stmt.Stmt.TheOpen.{Stmt-F}
use Rattle.py_ast.specs.declared.scoped.ScopeKind.TheVariants as kind
use Rattle.py_scopes.specs.declared.survey.Role.TheVariants as role
use Rattle.py_scopes.specs.declared.survey.What.{What}
use Rattle.py_scopes.specs.declared.survey.What.TheVariants as what
use Rattle.py_scopes.specs.declared.survey.Survey.{Survey}
use Rattle.py_scopes.specs.Parts as parts
use Rattle.py_scopes.specs.Survey.{Adds, all, enter, values, value, value_of, target, target_of, declared, branch_adds, manager_adds, handler_adds, looping, handling, finishing, bound_if, decorated, param_adds, expr, stmt, stmt_adds, stmts, own_name, top, survey_of}
use Rattle.py_scopes.specs.Resolve.{scopes_of}
use Rattle.py_scopes.specs.Nested.{Nest, ScopesNest}
use Rattle.py_scopes.proofs.Grown.{Fits, NestFrom, Keeps, KeepsIn, nothing, both, both_in, inner, outer, within, at_site, at_name, at_scope, filled_nest, nest}
use Rattle.py_scopes.proofs.NestedExpressions.{expr_keeps}

-- What stands in statements

value_keeps : (x : Expr) → Keeps (value x)
value_keeps x = expr_keeps x role.Value

value_of_keeps : (x : Option Expr) → Keeps (value_of x)
value_of_keeps None = nothing
value_of_keeps (Some x) = value_keeps x

target_of_keeps : (x : Option Expr) → Keeps (target_of x)
target_of_keeps None = nothing
target_of_keeps (Some x) = expr_keeps x role.Target

values_keep : (xs : List Expr) → Keeps (values (map expr xs))
values_keep [] = nothing
values_keep (x ∷ xs) = both (value_keeps x) (values_keep xs)

targets_keep : (xs : List Expr) → Keeps (all (map target xs))
targets_keep [] = nothing
targets_keep (x ∷ xs) = both (expr_keeps x role.Target) (targets_keep xs)

declared_keep : (w : List ℕ → What) (xs : List Declared) → Keeps (all (map (declared w) xs))
declared_keep w [] = nothing
declared_keep w (x ∷ xs) = both (at_name x.line w x.name) (declared_keep w xs)

managers_keep : (xs : List Manager) → Keeps (all (map manager_adds xs))
managers_keep [] = nothing
managers_keep (x ∷ xs) = both (both (value_keeps x.value) (target_of_keeps x.target)) (managers_keep xs)

bound_keeps : (line : ℕ) (x : Option (List ℕ)) → Keeps (bound_if line x)
bound_keeps line None = nothing
bound_keeps line (Some x) = at_name line what.Binds x

params_keep : (ps : List (Param Expr)) → KeepsIn (λ own. all (map (param_adds own) (map (parts.param_of expr) ps)))
params_keep [] = outer nothing
params_keep (param.Named l x None ∷ ps) = both_in (inner (at_name l what.Parameter x)) (params_keep ps)
params_keep (param.Named l x (Some d) ∷ ps) = both_in (inner (at_name l what.Parameter x)) (both_in (outer (value_keeps d)) (params_keep ps))
params_keep (param.Slash l ∷ ps) = params_keep ps
params_keep (param.Star l (Some x) ∷ ps) = both_in (inner (at_name l what.Parameter x)) (params_keep ps)
params_keep (param.Star l None ∷ ps) = params_keep ps
params_keep (param.DoubleStar l x ∷ ps) = both_in (inner (at_name l what.Parameter x)) (params_keep ps)

decorated_keeps : (line : ℕ) (xs : List Expr) (x : List ℕ) → Keeps (decorated line xs x)
decorated_keeps line xs x = both (values_keep xs) (at_name line what.Binds x)

-- Statements

abbrev Sure : Type 0
Sure = (x : Stmt) × Keeps (stmt x)

block_keeps : (xs : List Sure) → Keeps (all (map stmt (map (λ e. e.0) xs)))
block_keeps [] = nothing
block_keeps (x ∷ xs) = both (x.1) (block_keeps xs)

branches_keep : (xs : List (Branch Sure)) → Keeps (all (map branch_adds (map (parts.branch_of stmt) (map (parts.branch_of (λ e. e.0)) xs))))
branches_keep [] = nothing
branches_keep (x ∷ xs) = both (both (value_keeps x.test) (block_keeps x.body)) (branches_keep xs)

handlers_keep : (xs : List (Handler Sure)) → Keeps (all (map handler_adds (map (parts.handler_of stmt) (map (parts.handler_of (λ e. e.0)) xs))))
handlers_keep [] = nothing
handlers_keep (x ∷ xs) = both (both (value_of_keeps x.class) (both (bound_keeps x.line x.name) (within handling (λ place. refl) (block_keeps x.body)))) (handlers_keep xs)

layer_keeps : (y : Stmt-F Sure) → Keeps (stmt_adds (map-Stmt Stmt Adds stmt (map-Stmt Sure Stmt (λ e. e.0) y)))
layer_keeps (Stmt-F.Expr line x) = value_keeps x
layer_keeps (Stmt-F.Assign line xs x) = both (targets_keep xs) (value_keeps x)
layer_keeps (Stmt-F.Augment line x operator y) = both (expr_keeps x role.Augmented) (value_keeps y)
layer_keeps (Stmt-F.Pass line) = nothing
layer_keeps (Stmt-F.Break line) = at_site line what.Break
layer_keeps (Stmt-F.Continue line) = at_site line what.Break
layer_keeps (Stmt-F.Return line x) = both (at_site line what.Return) (value_of_keeps x)
layer_keeps (Stmt-F.Raise line None) = at_site line what.Reraise
layer_keeps (Stmt-F.Raise line (Some x)) = value_keeps x
layer_keeps (Stmt-F.Del line x) = expr_keeps x role.Deleted
layer_keeps (Stmt-F.Assert line x y) = both (value_keeps x) (value_of_keeps y)
layer_keeps (Stmt-F.Global line xs) = declared_keep what.Global xs
layer_keeps (Stmt-F.Nonlocal line xs) = declared_keep what.Nonlocal xs
layer_keeps (Stmt-F.If line branches otherwise) = both (branches_keep branches) (block_keeps otherwise)
layer_keeps (Stmt-F.While line x body otherwise) = both (value_keeps x) (both (within looping (λ place. refl) (block_keeps body)) (block_keeps otherwise))
layer_keeps (Stmt-F.For line x y body otherwise) = both (expr_keeps x role.Target) (both (value_keeps y) (both (within looping (λ place. refl) (block_keeps body)) (block_keeps otherwise)))
layer_keeps (Stmt-F.Try line body handlers otherwise final) =
    both (block_keeps body) (both (handlers_keep handlers) (both (block_keeps otherwise) (within finishing (λ place. refl) (block_keeps final))))
layer_keeps (Stmt-F.With line managers body) = both (managers_keep managers) (block_keeps body)
layer_keeps (Stmt-F.Def line decorators x ps body) = both (decorated_keeps line decorators x) (at_scope line kind.Function x (both_in (params_keep ps) (inner (block_keeps body))))
layer_keeps (Stmt-F.Class line decorators x base body) = both (decorated_keeps line decorators x) (at_scope line kind.Class x (both_in (outer (value_of_keeps base)) (inner (block_keeps body))))

stmt_keeps : (x : Stmt) → Keeps (stmt x)
stmt_keeps = ind-Stmt (λ x. Keeps (stmt x)) (λ x y is.
    subst (λ z. Keeps (stmt (roll-Stmt z))) is (subst Keeps (sym (fold-roll-Stmt Adds stmt_adds (map-Stmt Sure Stmt (λ e. e.0) y))) (layer_keeps y)))

stmts_keep : (xs : List Stmt) → Keeps (stmts xs)
stmts_keep [] = nothing
stmts_keep (x ∷ xs) = both (stmt_keeps x) (stmts_keep xs)

-- Scripts

module_fits : (built_in : Bool) → Fits 0 (enter 1 kind.Module (own_name kind.Module) top (record { built_in = built_in; scopes = []; sites = [] }))
unfolding enter
module_fits built_in = record { below = omega arith; nested = (λ p. omega (arith, p), tt) }

survey_nests : (built_in : Bool) (script : List Stmt) → NestFrom 0 (survey_of built_in script).scopes
unfolding survey_of
survey_nests built_in script = ((stmts_keep script).keeps 0 top _ (module_fits built_in) (module_fits built_in)).nested

resolved_nest : (s : Survey) → NestFrom 0 s.scopes → NestFrom 0 (scopes_of s)
unfolding scopes_of
resolved_nest s a = filled_nest s s.sites 0 0 s.scopes a

pub scopes_nest : ScopesNest
scopes_nest built_in script scoped a =
    subst (λ xs. Nest xs) (sym a.1.0) (nest _ (resolved_nest (survey_of built_in script.statements) (survey_nests built_in script.statements)))
