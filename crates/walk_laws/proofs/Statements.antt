-- Definitions, each statement, and scripts, as they are made and as they are walked.
use Rattle.std.proofs.Common.{ℕ, ◌+◌, List, [], ◌∷◌, map, Option, Some, None, refl, sym, ap, subst, ◌∙◌}
use Rattle.py_ast.specs.declared.expr.Expr.{Expr}
use Rattle.py_ast.specs.declared.expr.Param.{Param}
use Rattle.py_ast.specs.declared.expr.Param.TheVariants as param
use Rattle.py_ast.specs.declared.stmt.Stmt.{Stmt, fold-roll-Stmt, map-Stmt, roll-Stmt, ind-Stmt}
use Rattle.py_ast.specs.declared.stmt.Stmt.TheOpen.{Stmt-F}
use Rattle.py_scopes.specs.Parts.{param_of}
use Rattle.node_tree.specs.Blocks as tree
use Rattle.py_meaning.specs.Syntax as syntax
use Rattle.py_meaning.specs.Resolved as meaning
use Rattle.py_meaning.specs.Resolved.{Context, Making, module_context}
use Rattle.py_meaning.specs.Scopes.{cells_for}
use Rattle.carries_base.specs.Carries.{Carrier}
use Rattle.carried_codes.specs.Parts.{Decorator}
use Rattle.carried_codes.specs.Expressions as expressions
use Rattle.carried_codes.specs.Nodes as nodes
use Rattle.walk_laws.specs.States.{Walking, coded, and_then}
use Rattle.walk_laws.specs.Contexts.{homes_in, seat_in, cells_in, code_in}
use Rattle.walk_laws.specs.Expressions.{expr, scoped}
use Rattle.walk_laws.specs.Statements as walk
use Rattle.walk_laws.specs.Composed.{Out, As, block_at, statement_at, ExpressionsAreWalked, StatementsAreWalked, ScriptsAreWalked}
use Rattle.walk_laws.proofs.Threads.{out, value_out, block_out, behind, first, nothing, alone, one, two, next_at, last_at}
use Rattle.walk_laws.proofs.Functions.{Params, no_param, required, optional, slash, star, double, body_at, scoped_walked, function_walked, code_same}
use Rattle.walk_laws.proofs.Simple.{decorators_at, decorators_walked, base_walked, evaluated_walked, assign_walked, augment_walked, delete_walked, returned_walked, raised_walked, asserted_walked}
use Rattle.walk_laws.proofs.Compound.{Alike, Sure, meant, gone, block_walked, if_any_walked, while_walked, for_walked, with_statement_walked, try_statement_walked}

module _ (known : ExpressionsAreWalked) where
  -- Definitions

  inner_walked : (body : List Sure) (d : Context) → As (body_at d) (meaning.made syntax.Statements (meaning.block d (meant body))) (walk.inner (gone body) d)
  inner_walked body d = one syntax.Statements (λ b t. out b t) (λ t x. refl) (block_walked known d None body)

  params_same : (ps : List (Param Expr)) → Params (map (param_of meaning.expr) ps) (map (param_of expr) ps)
  params_same [] = no_param
  params_same (param.Named l x None ∷ ps) = required l x (params_same ps)
  params_same (param.Named l x (Some d) ∷ ps) = optional l x (known d) (params_same ps)
  params_same (param.Slash l ∷ ps) = slash l (params_same ps)
  params_same (param.Star l x ∷ ps) = star l x (params_same ps)
  params_same (param.DoubleStar l x ∷ ps) = double l x (params_same ps)

  module _ (c : Context) (caught : Option ℕ) where
    abbrev named_out : ℕ → List ℕ → Carrier → ℕ → Out tree.Block
    named_out line name p t = block_out (nodes.defined line (seat_in c name) (record { part = p; next = t }))

    abbrev define : ℕ → List ℕ → List syntax.Decorator → syntax.Expression → syntax.Statement
    define line name ds f = syntax.Define line ds f (meaning.home_in c name)

    definition_walked : (line : ℕ) (ds : List Expr) (name : List ℕ) (ps : List (Param Expr)) (body : List Sure)
        → As (statement_at c caught) (meaning.definition c line ds name ps (meant body)) (walk.definition c line ds name ps (gone body))
    definition_walked line ds name ps body =
        two (define line name) (λ ds p t. let q = expressions.decorate ds p t in named_out line name q.part q.next) (λ t x y. refl)
        (decorators_walked known c ds) (function_walked c line (params_same ps) (inner_walked body))

    abbrev class_pair : ℕ → syntax.Expression → ℕ × syntax.Expression
    class_pair n b = (n, b)

    -- a class whose decorators are evaluated, by the number of its scope and its base
    abbrev class_at : ℕ → List ℕ → List Decorator → ℕ → ℕ × syntax.Expression → Out Carrier
    class_at line name ps t x = let p = nodes.value (homes_in c) t x.1 in value_out (expressions.make_class line (c.first + x.0) name ps p.part (cells_in c x.0) p.next)

    abbrev class_made : ℕ → List ℕ → Option Expr → List Sure → Making (ℕ × syntax.Expression)
    class_made line name base body =
        meaning.scoped c meaning.handed (Some name) (meaning.base_of c line base) (λ d. meaning.made syntax.Statements (meaning.block d (meant body))) class_pair

    abbrev class_gone : ℕ → List ℕ → Option Expr → List Sure → List Decorator → Walking Carrier
    class_gone line name base body ps =
        scoped c meaning.handed (Some name) (walk.base_of c line base) (walk.inner (gone body)) (λ n b t. expressions.make_class line (c.first + n) name ps b (cells_in c n) t)

    class_scope : (line : ℕ) (name : List ℕ) (base : Option Expr) (body : List Sure) (ps : List Decorator) → As (class_at line name ps) (class_made line name base body) (class_gone line name base body ps)
    class_scope line name base body ps =
        scoped_walked c meaning.handed (Some name) class_pair (λ n b t. expressions.make_class line (c.first + n) name ps b (cells_in c n) t) (λ n t x. refl) (base_walked known c line base) (inner_walked body)

    abbrev class_of : ℕ → List ℕ → List syntax.Decorator → ℕ × syntax.Expression → syntax.Statement
    class_of line name ds x = syntax.Class line ds name x.1 (c.first + x.0) (cells_for c.scopes c.this x.0) (meaning.home_in c name)

    class_walked : (line : ℕ) (ds : List Expr) (name : List ℕ) (base : Option Expr) (body : List Sure)
        → As (statement_at c caught) (meaning.class c line ds name base (meant body)) (walk.class c line ds name base (gone body))
    class_walked line ds name base body = record {
      same = λ s.
          let m = meaning.decorators c ds in
          let u = behind (decorators_at c) m s in
          let ps = first (decorators_at c) m s in
          next_at s (statement_at c caught s.temp) (λ ds. meaning.made (class_of line name ds) (class_made line name base body)) (λ ps. and_then (class_gone line name base body ps) (walk.named c line name))
          (decorators_walked known c ds)
          (last_at u (statement_at c caught s.temp) (class_of line name (m s.scope).is) (named_out line name) refl (class_scope line name base body ps));
    }

  -- Statements

  abbrev bare : Stmt-F Sure → Stmt-F Stmt
  bare y = map-Stmt Sure Stmt (λ e. e.0) y

  abbrev Layer : Stmt-F Sure → Type 0
  Layer y = Alike (meaning.stmt_piece (map-Stmt Stmt meaning.Piece meaning.stmt (bare y))) (walk.stmt_piece (map-Stmt Stmt walk.Piece walk.stmt (bare y)))

  layer : (y : Stmt-F Sure) → Layer y
  layer (Stmt-F.Expr line x) = record { alike = λ c caught. evaluated_walked known c caught x }
  layer (Stmt-F.Assign line xs x) = record { alike = λ c caught. assign_walked known c caught xs x }
  layer (Stmt-F.Augment line to sign x) = record { alike = λ c caught. augment_walked known c caught line to sign x }
  layer (Stmt-F.Pass line) = record { alike = λ c caught. nothing syntax.Pass tree.Stop (λ t. refl) }
  layer (Stmt-F.Break line) = record { alike = λ c caught. nothing syntax.Break (tree.alone (tree.Leave 2)) (λ t. refl) }
  layer (Stmt-F.Continue line) = record { alike = λ c caught. nothing syntax.Continue (tree.alone (tree.Leave 1)) (λ t. refl) }
  layer (Stmt-F.Return line x) = record { alike = λ c caught. returned_walked known c caught x }
  layer (Stmt-F.Raise line None) = record { alike = λ c caught. alone syntax.Reraise }
  layer (Stmt-F.Raise line (Some x)) = record { alike = λ c caught. raised_walked known c caught line x }
  layer (Stmt-F.Del line x) = record { alike = λ c caught. delete_walked known c caught x }
  layer (Stmt-F.Assert line x y) = record { alike = λ c caught. asserted_walked known c caught line x y }
  layer (Stmt-F.Global line names) = record { alike = λ c caught. nothing syntax.Pass tree.Stop (λ t. refl) }
  layer (Stmt-F.Nonlocal line names) = record { alike = λ c caught. nothing syntax.Pass tree.Stop (λ t. refl) }
  layer (Stmt-F.If line bs other) = record { alike = λ c caught. if_any_walked known c caught bs other }
  layer (Stmt-F.While line x body other) = record { alike = λ c caught. while_walked known c caught line x body other }
  layer (Stmt-F.For line to over body other) = record { alike = λ c caught. for_walked known c caught line to over body other }
  layer (Stmt-F.Try line body hs other last) = record { alike = λ c caught. try_statement_walked known c caught body hs other last }
  layer (Stmt-F.With line ms body) = record { alike = λ c caught. with_statement_walked known c caught ms body }
  layer (Stmt-F.Def line ds name ps body) = record { alike = λ c caught. definition_walked c caught line ds name ps body }
  layer (Stmt-F.Class line ds name base body) = record { alike = λ c caught. class_walked c caught line ds name base body }

  stmt_alike : (x : Stmt) → Alike (meaning.stmt x) (walk.stmt x)
  stmt_alike = ind-Stmt (λ x. Alike (meaning.stmt x) (walk.stmt x)) (λ x y is.
      subst (λ w. Alike (meaning.stmt (roll-Stmt w)) (walk.stmt (roll-Stmt w))) is
      (subst (λ m. Alike m (walk.stmt (roll-Stmt (bare y)))) (sym (fold-roll-Stmt meaning.Piece meaning.stmt_piece (bare y)))
      (subst (λ w. Alike (meaning.stmt_piece (map-Stmt Stmt meaning.Piece meaning.stmt (bare y))) w) (sym (fold-roll-Stmt walk.Piece walk.stmt_piece (bare y))) (layer y))))

  pub statements_walked : StatementsAreWalked
  statements_walked x c caught = (stmt_alike x).alike c caught

  -- Scripts

  all_walked : (c : Context) (caught : Option ℕ) (xs : List Stmt) → As (block_at c caught) (meaning.block c (map meaning.stmt xs)) (walk.block c caught (map walk.stmt xs))
  all_walked c caught [] = nothing syntax.Done tree.Stop (λ t. refl)
  all_walked c caught (x ∷ xs) = two syntax.Then (λ b r t. out (tree.append b r) t) (λ t x y. refl) (statements_walked x c caught) (all_walked c caught xs)

  pub scripts_walked : ScriptsAreWalked
  scripts_walked n s =
      let c = module_context s.scopes n in
      let m = meaning.block c (map meaning.stmt s.script.statements) 1 in
      ap (λ r. code_in c [] r.is ∷ r.state.codes) ((all_walked c None s.script.statements).same (walk.started c))
      ∙ ap (λ k. k ∷ map coded m.codes) (code_same c [] (syntax.Statements m.is) refl)
