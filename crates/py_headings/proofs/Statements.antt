-- Statements of tidy parts: what they add to a survey are scopes with lines, and what they are made to are codes with headings.
use Rattle.std.proofs.Common.{◌≡◌, ℕ, ◌+◌, ◌<◌, true, List, [], ◌∷◌, ◌++◌, map, Option, Some, None, sym, subst}
use Rattle.std.specs.List.{AllByRecursion}
use Rattle.py_ast.specs.Lines.{line_of}
use Rattle.py_ast.specs.declared.expr.Expr.{Expr}
use Rattle.py_ast.specs.declared.stmt.Branch.{Branch}
use Rattle.py_ast.specs.declared.stmt.Declared.{Declared}
use Rattle.py_ast.specs.declared.stmt.Handler.{Handler}
use Rattle.py_ast.specs.declared.stmt.Manager.{Manager}
use Rattle.py_ast.specs.declared.stmt.Stmt.{Stmt, fold-roll-Stmt, map-Stmt, roll-Stmt}
use Rattle.py_ast.specs.declared.stmt.Stmt.TheOpen.{Stmt-F}
use Rattle.py_ast.specs.declared.scoped.ScopeKind.TheVariants as kind
use Rattle.py_grammar.specs.Lists.{params_in_order}
use Rattle.py_scopes.specs.declared.survey.Role.TheVariants as role
use Rattle.py_scopes.specs.declared.survey.What.{What}
use Rattle.py_scopes.specs.declared.survey.What.TheVariants as what
use Rattle.py_scopes.specs.Parts.{branch_of, handler_of}
use Rattle.py_scopes.specs.Survey as survey
use Rattle.py_scopes.specs.Survey.{Adds, all, branch_adds, manager_adds, handler_adds, looping, handling, finishing, inside}
use Rattle.py_meaning.specs.Syntax as syntax
use Rattle.py_meaning.specs.Resolved as resolved
use Rattle.py_meaning.specs.Resolved.{Context, Making, Piece, block, alone, first_of, handed, home_in, augmented_op}
use Rattle.py_meaning.specs.Scopes.{cells_for}
use Rattle.py_headings.specs.Laws.{IsName}
use Rattle.py_headings.proofs.Tidy.{Keeps, Stands, Makes, Tidy, OptionTidy, ParamTidy}
use Rattle.py_headings.proofs.Surveyed.{site_keeps, name_keeps, enter_keeps, values_keep, function_keeps}
use Rattle.py_headings.proofs.Coded.{pure_makes, then_makes, made_makes, two_make, three_make, four_make, scoped_makes, values_make, targets_make, function_makes, handed_fits}

pub record StmtTidy (x : Stmt) : Type 0 where
  pub seen : Keeps (survey.stmt x)
  pub made : (c : Context) → Stands c → Makes (resolved.stmt x c)

abbrev pub BlockTidy : List Stmt → Type 0
BlockTidy xs = AllByRecursion StmtTidy xs

abbrev pub BranchTidy : Branch Stmt → Type 0
BranchTidy b = Tidy b.test × BlockTidy b.body

abbrev pub HandlerTidy : Handler Stmt → Type 0
HandlerTidy h = OptionTidy h.class × BlockTidy h.body

abbrev pub ManagerTidy : Manager → Type 0
ManagerTidy m = Tidy m.value × OptionTidy m.target

abbrev pub PartsTidy : Stmt-F Stmt → Type 0
PartsTidy (Stmt-F.Expr line x) = Tidy x
PartsTidy (Stmt-F.Assign line xs x) = AllByRecursion Tidy xs × Tidy x
PartsTidy (Stmt-F.Augment line to sign x) = Tidy to × Tidy x
PartsTidy (Stmt-F.Pass line) = Unit {0}
PartsTidy (Stmt-F.Break line) = Unit {0}
PartsTidy (Stmt-F.Continue line) = Unit {0}
PartsTidy (Stmt-F.Return line x) = OptionTidy x
PartsTidy (Stmt-F.Raise line x) = OptionTidy x
PartsTidy (Stmt-F.Del line x) = Tidy x
PartsTidy (Stmt-F.Assert line x y) = Tidy x × OptionTidy y
PartsTidy (Stmt-F.Global line names) = Unit {0}
PartsTidy (Stmt-F.Nonlocal line names) = Unit {0}
PartsTidy (Stmt-F.If line bs other) = AllByRecursion BranchTidy bs × BlockTidy other
PartsTidy (Stmt-F.While line x body other) = Tidy x × BlockTidy body × BlockTidy other
PartsTidy (Stmt-F.For line to x body other) = Tidy to × Tidy x × BlockTidy body × BlockTidy other
PartsTidy (Stmt-F.Try line body hs other last) = BlockTidy body × AllByRecursion HandlerTidy hs × BlockTidy other × BlockTidy last
PartsTidy (Stmt-F.With line ms body) = AllByRecursion ManagerTidy ms × BlockTidy body
PartsTidy (Stmt-F.Def line ds name ps body) = (0 < line) × AllByRecursion Tidy ds × AllByRecursion ParamTidy ps × (params_in_order ps ≡ true) × BlockTidy body
PartsTidy (Stmt-F.Class line ds name base body) = (0 < line) × IsName name × AllByRecursion Tidy ds × OptionTidy base × BlockTidy body

-- Surveys

pub stmts_keep : (xs : List Stmt) → BlockTidy xs → Keeps (all (map survey.stmt xs))
stmts_keep [] t place s l = l
stmts_keep (x ∷ xs) t place s l = stmts_keep xs t.1 place (survey.stmt x place s) (t.0.seen place s l)

value_of_keeps : (o : Option Expr) → OptionTidy o → Keeps (survey.value_of o)
value_of_keeps None t place s l = l
value_of_keeps (Some x) t place s l = t.seen role.Value place s l

target_of_keeps : (o : Option Expr) → OptionTidy o → Keeps (survey.target_of o)
target_of_keeps None t place s l = l
target_of_keeps (Some x) t place s l = t.seen role.Target place s l

targets_keep : (xs : List Expr) → AllByRecursion Tidy xs → Keeps (all (map survey.target xs))
targets_keep [] t place s l = l
targets_keep (x ∷ xs) t place s l = targets_keep xs t.1 place (survey.target x place s) (t.0.seen role.Target place s l)

declared_keep : (w : List ℕ → What) (xs : List Declared) → Keeps (all (map (survey.declared w) xs))
declared_keep w [] place s l = l
declared_keep w (x ∷ xs) place s l = declared_keep w xs place (survey.declared w x place s) (name_keeps x.line w x.name place s l)

bound_keeps : (line : ℕ) (x : Option (List ℕ)) → Keeps (survey.bound_if line x)
bound_keeps line None place s l = l
bound_keeps line (Some x) place s l = name_keeps line what.Binds x place s l

decorated_keeps : (line : ℕ) (ds : List Expr) (x : List ℕ) → AllByRecursion Tidy ds → Keeps (survey.decorated line ds x)
decorated_keeps line ds x t place s l = name_keeps line what.Binds x place (survey.values (map survey.expr ds) place s) (values_keep ds t place s l)

branches_keep : (bs : List (Branch Stmt)) → AllByRecursion BranchTidy bs → Keeps (all (map branch_adds (map (branch_of survey.stmt) bs)))
branches_keep [] t place s l = l
branches_keep (b ∷ bs) t place s l =
    branches_keep bs t.1 place (all (map survey.stmt b.body) place (survey.value b.test place s)) (stmts_keep b.body t.0.1 place (survey.value b.test place s) (t.0.0.seen role.Value place s l))

managers_keep : (ms : List Manager) → AllByRecursion ManagerTidy ms → Keeps (all (map manager_adds ms))
managers_keep [] t place s l = l
managers_keep (m ∷ ms) t place s l =
    managers_keep ms t.1 place (survey.target_of m.target place (survey.value m.value place s)) (target_of_keeps m.target t.0.1 place (survey.value m.value place s) (t.0.0.seen role.Value place s l))

handlers_keep : (hs : List (Handler Stmt)) → AllByRecursion HandlerTidy hs → Keeps (all (map handler_adds (map (handler_of survey.stmt) hs)))
handlers_keep [] t place s l = l
handlers_keep (h ∷ hs) t place s l =
    let caught = survey.bound_if h.line h.name place (survey.value_of h.class place s) in
    handlers_keep hs t.1 place (all (map survey.stmt h.body) (handling place) caught)
    (stmts_keep h.body t.0.1 (handling place) caught (bound_keeps h.line h.name place (survey.value_of h.class place s) (value_of_keeps h.class t.0.0 place s l)))

layer_keeps : (y : Stmt-F Stmt) → PartsTidy y → Keeps (survey.stmt_adds (map-Stmt Stmt Adds survey.stmt y))
layer_keeps (Stmt-F.Expr line x) t place s l = t.seen role.Value place s l
layer_keeps (Stmt-F.Assign line xs x) t place s l = t.1.seen role.Value place (all (map survey.target xs) place s) (targets_keep xs t.0 place s l)
layer_keeps (Stmt-F.Augment line to sign x) t place s l = t.1.seen role.Value place (survey.expr to role.Augmented place s) (t.0.seen role.Augmented place s l)
layer_keeps (Stmt-F.Pass line) t place s l = l
layer_keeps (Stmt-F.Break line) t place s l = site_keeps line what.Break place s l
layer_keeps (Stmt-F.Continue line) t place s l = site_keeps line what.Break place s l
layer_keeps (Stmt-F.Return line x) t place s l = value_of_keeps x t place (survey.site line what.Return place s) (site_keeps line what.Return place s l)
layer_keeps (Stmt-F.Raise line None) t place s l = site_keeps line what.Reraise place s l
layer_keeps (Stmt-F.Raise line (Some x)) t place s l = t.seen role.Value place s l
layer_keeps (Stmt-F.Del line x) t place s l = t.seen role.Deleted place s l
layer_keeps (Stmt-F.Assert line x y) t place s l = value_of_keeps y t.1 place (survey.value x place s) (t.0.seen role.Value place s l)
layer_keeps (Stmt-F.Global line names) t place s l = declared_keep what.Global names place s l
layer_keeps (Stmt-F.Nonlocal line names) t place s l = declared_keep what.Nonlocal names place s l
layer_keeps (Stmt-F.If line bs other) t place s l = stmts_keep other t.1 place (all (map branch_adds (map (branch_of survey.stmt) bs)) place s) (branches_keep bs t.0 place s l)
layer_keeps (Stmt-F.While line x body other) t place s l =
    let tested = survey.value x place s in
    stmts_keep other t.2 place (all (map survey.stmt body) (looping place) tested) (stmts_keep body t.1 (looping place) tested (t.0.seen role.Value place s l))
layer_keeps (Stmt-F.For line to x body other) t place s l =
    let to_next = survey.target to place s in let ranged = survey.value x place to_next in
    stmts_keep other t.3 place (all (map survey.stmt body) (looping place) ranged) (stmts_keep body t.2 (looping place) ranged (t.1.seen role.Value place to_next (t.0.seen role.Target place s l)))
layer_keeps (Stmt-F.Try line body hs other last) t place s l =
    let tried = all (map survey.stmt body) place s in
    let caught = all (map handler_adds (map (handler_of survey.stmt) hs)) place tried in
    stmts_keep last t.3 (finishing place) (all (map survey.stmt other) place caught) (stmts_keep other t.2 place caught (handlers_keep hs t.1 place tried (stmts_keep body t.0 place s l)))
layer_keeps (Stmt-F.With line ms body) t place s l = stmts_keep body t.1 place (all (map manager_adds ms) place s) (managers_keep ms t.0 place s l)
layer_keeps (Stmt-F.Def line ds name ps body) t place s l =
    function_keeps line kind.Function name ps (all (map survey.stmt body)) t.0 t.2 (stmts_keep body t.4) place (survey.decorated line ds name place s) (decorated_keeps line ds name t.1 place s l)
layer_keeps (Stmt-F.Class line ds name base body) t place s l =
    let before = survey.decorated line ds name place s in let entered = survey.enter line kind.Class name place before in
    stmts_keep body t.4 (inside kind.Class place before) (survey.value_of base place entered)
    (value_of_keeps base t.3 place entered (enter_keeps line kind.Class name t.0 place before (decorated_keeps line ds name t.2 place s l)))

-- Codes

module _ (c : Context) (s : Stands c) where
  pub block_makes : (xs : List Stmt) → BlockTidy xs → Makes (block c (map resolved.stmt xs))
  block_makes [] t = pure_makes syntax.Done
  block_makes (x ∷ xs) t = two_make syntax.Then _ _ (t.0.made c s) (block_makes xs t.1)

  joined_make : (xs ys : List Stmt) → BlockTidy xs → BlockTidy ys → Makes (block c (map resolved.stmt xs ++ map resolved.stmt ys))
  joined_make [] ys t u = block_makes ys u
  joined_make (x ∷ xs) ys t u = two_make syntax.Then _ _ (t.0.made c s) (joined_make xs ys t.1 u)

  value_of_makes : (o : Option Expr) → OptionTidy o → Makes (resolved.value_of c o)
  value_of_makes None t = pure_makes resolved.none
  value_of_makes (Some x) t = t.value c s

  texts_make : (o : Option Expr) → OptionTidy o → Makes (resolved.texts c o)
  texts_make None t = pure_makes syntax.NoMore
  texts_make (Some x) t = values_make c s (x ∷ []) (t, tt)

  target_of_makes : (o : Option Expr) → OptionTidy o → Makes (resolved.target_of c o)
  target_of_makes None t = pure_makes syntax.NoTarget
  target_of_makes (Some x) t = targets_make c s (x ∷ []) (t, tt)

  base_makes : (line : ℕ) (o : Option Expr) → OptionTidy o → Makes (resolved.base_of c line o)
  base_makes line None t = pure_makes _
  base_makes line (Some x) t = t.value c s

  abbrev decorator : Expr → syntax.Expression → List syntax.Decorator → List syntax.Decorator
  decorator x v ds = (record { line = line_of x; is = v }) ∷ ds

  decorators_make : (xs : List Expr) → AllByRecursion Tidy xs → Makes (resolved.decorators c xs)
  decorators_make [] t = pure_makes []
  decorators_make (x ∷ xs) t = two_make (decorator x) _ _ (t.0.value c s) (decorators_make xs t.1)

  branches_make : (bs : List (Branch Stmt)) (other : Making syntax.Block) → AllByRecursion BranchTidy bs → Makes other → Makes (resolved.branches c (map (branch_of resolved.stmt) bs) other)
  branches_make [] other t o = o
  branches_make (b ∷ bs) other t o =
      three_make (λ (x : syntax.Expression) (y z : syntax.Block). alone (syntax.If b.line x y z)) _ _ _ (t.0.0.value c s) (block_makes b.body t.0.1) (branches_make bs other t.1 o)

  clause_makes : (line : ℕ) (class : Option Expr) (name : Option (List ℕ)) (body : List Stmt) (others : Making syntax.Handlers) → OptionTidy class → BlockTidy body → Makes others
      → Makes (resolved.clause_made c (record { line = line; class = class; name = name; body = map resolved.stmt body }) class others)
  clause_makes line None name body others t u o = two_make (λ (b : syntax.Block) (h : syntax.Handlers). syntax.Bare b) _ _ (block_makes body u) o
  clause_makes line (Some x) name body others t u o =
      three_make (λ (v : syntax.Expression) (b : syntax.Block) (h : syntax.Handlers). syntax.Handler (line_of x) v (resolved.bound c line name) b h) _ _ _ (t.value c s) (block_makes body u) o

  handlers_make : (hs : List (Handler Stmt)) → AllByRecursion HandlerTidy hs → Makes (resolved.handlers c (map (handler_of resolved.stmt) hs))
  handlers_make [] t = pure_makes syntax.NoHandler
  handlers_make (h ∷ hs) t = clause_makes h.line h.class h.name h.body _ t.0.0 t.0.1 (handlers_make hs t.1)

  guarded_makes : (body : List Stmt) (hs : List (Handler Stmt)) (other : List Stmt) → BlockTidy body → AllByRecursion HandlerTidy hs → BlockTidy other
      → Makes (resolved.guarded c (map resolved.stmt body) (map (handler_of resolved.stmt) hs) (map resolved.stmt other))
  guarded_makes body [] other t u v = joined_make body other t v
  guarded_makes body (h ∷ hs) other t u v =
      three_make (λ (b : syntax.Block) (k : syntax.Handlers) (o : syntax.Block). alone (syntax.Try b k o)) _ _ _ (block_makes body t) (handlers_make (h ∷ hs) u) (block_makes other v)

  finished_makes : (m : Making syntax.Block) (last : List Stmt) → Makes m → BlockTidy last → Makes (resolved.finished c m (map resolved.stmt last))
  finished_makes m [] a t = made_makes first_of m a
  finished_makes m (x ∷ xs) a t = two_make syntax.Finally m _ a (block_makes (x ∷ xs) t)

  managers_make : (ms : List Manager) (body : Making syntax.Block) → AllByRecursion ManagerTidy ms → Makes body → Makes (resolved.managers c ms body)
  managers_make [] body t b = b
  managers_make (m ∷ ms) body t b =
      three_make (λ (v : syntax.Expression) (x : syntax.Targets) (y : syntax.Block). alone (syntax.With (line_of m.value) v x y)) _ _ _ (t.0.0.value c s) (target_of_makes m.target t.0.1) (managers_make ms body t.1 b)

  abbrev define : ℕ → List ℕ → List syntax.Decorator → syntax.Expression → syntax.Statement
  define line name ds f = syntax.Define line ds f (home_in c name)

  abbrev class_of : ℕ → List ℕ → List syntax.Decorator → ℕ → syntax.Expression → syntax.Statement
  class_of line name ds n b = syntax.Class line ds name b (c.first + n) (cells_for c.scopes c.this n) (home_in c name)

abbrev body_of : List Stmt → Context → Making syntax.Body
body_of body d = resolved.made syntax.Statements (block d (map resolved.stmt body))

body_makes : (body : List Stmt) → BlockTidy body → (d : Context) → Stands d → Makes (body_of body d)
body_makes body t d w = made_makes syntax.Statements _ (block_makes d w body t)

layer_makes : (y : Stmt-F Stmt) → PartsTidy y → (c : Context) → Stands c → Makes (resolved.stmt_piece (map-Stmt Stmt Piece resolved.stmt y) c)
layer_makes (Stmt-F.Expr line x) t c s = made_makes syntax.Evaluate _ (t.value c s)
layer_makes (Stmt-F.Assign line xs x) t c s = two_make syntax.Assign _ _ (targets_make c s xs t.0) (t.1.value c s)
layer_makes (Stmt-F.Augment line to sign x) t c s = two_make (syntax.Augment line (augmented_op sign)) _ _ (t.0.target c s) (t.1.value c s)
layer_makes (Stmt-F.Pass line) t c s = pure_makes syntax.Pass
layer_makes (Stmt-F.Break line) t c s = pure_makes syntax.Break
layer_makes (Stmt-F.Continue line) t c s = pure_makes syntax.Continue
layer_makes (Stmt-F.Return line x) t c s = made_makes syntax.Return _ (value_of_makes c s x t)
layer_makes (Stmt-F.Raise line None) t c s = pure_makes syntax.Reraise
layer_makes (Stmt-F.Raise line (Some x)) t c s = made_makes (syntax.Raise line) _ (t.value c s)
layer_makes (Stmt-F.Del line x) t c s = made_makes syntax.Delete _ (t.target c s)
layer_makes (Stmt-F.Assert line x y) t c s = two_make (syntax.Assert line) _ _ (t.0.value c s) (texts_make c s y t.1)
layer_makes (Stmt-F.Global line names) t c s = pure_makes syntax.Pass
layer_makes (Stmt-F.Nonlocal line names) t c s = pure_makes syntax.Pass
layer_makes (Stmt-F.If line bs other) t c s = made_makes first_of _ (branches_make c s bs _ t.0 (block_makes c s other t.1))
layer_makes (Stmt-F.While line x body other) t c s = three_make (syntax.While line) _ _ _ (t.0.value c s) (block_makes c s body t.1) (block_makes c s other t.2)
layer_makes (Stmt-F.For line to x body other) t c s = four_make (syntax.For line) _ _ _ _ (t.0.target c s) (t.1.value c s) (block_makes c s body t.2) (block_makes c s other t.3)
layer_makes (Stmt-F.Try line body hs other last) t c s = finished_makes c s _ last (guarded_makes c s body hs other t.0 t.1 t.2) t.3
layer_makes (Stmt-F.With line ms body) t c s = made_makes first_of _ (managers_make c s ms _ t.0 (block_makes c s body t.1))
layer_makes (Stmt-F.Def line ds name ps body) t c s =
    two_make (define c s line name) _ _ (decorators_make c s ds t.1) (function_makes c s line ps (body_of body) t.2 t.3 (body_makes body t.4))
layer_makes (Stmt-F.Class line ds name base body) t c s =
    then_makes (resolved.decorators c ds) _ (decorators_make c s ds t.2)
    (λ decorated. scoped_makes c s handed (Some name) (resolved.base_of c line base) (body_of body) (class_of c s line name decorated) handed_fits t.1 (base_makes c s line base t.3) (body_makes body t.4))

pub stmt_tidy : (y : Stmt-F Stmt) → PartsTidy y → StmtTidy (roll-Stmt y)
stmt_tidy y t = record {
  seen = subst (λ (f : Adds). Keeps f) (sym (fold-roll-Stmt Adds survey.stmt_adds y)) (layer_keeps y t);
  made = subst (λ (m : Piece). (c : Context) → Stands c → Makes (m c)) (sym (fold-roll-Stmt Piece resolved.stmt_piece y)) (layer_makes y t);
}
