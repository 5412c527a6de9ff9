-- Statements of accepted scripts are lawful.
use Rattle.std.proofs.Common.{◌≡◌, ℕ, suc, ◌+◌, Bool, true, false, ◌||◌, List, [], ◌∷◌, ◌++◌, length, map, Option, Some, None, refl, ap, ◌∙◌, sym, subst, arith}
use Rattle.std.specs.Prelude.{IsTrue, codes}
use Rattle.nu_text.specs.Names.{is_among, built_in_names}
use Rattle.op_forms.specs.declared.signature.ArgumentKind.TheVariants as operand
use Rattle.py_ast.specs.Lines.{line_of}
use Rattle.py_ast.specs.declared.expr.Param.{Param}
use Rattle.py_ast.specs.declared.expr.Param.TheVariants as param
use Rattle.py_ast.specs.declared.expr.Expr.{Expr}
use Rattle.py_ast.specs.declared.stmt.Branch.{Branch}
use Rattle.py_ast.specs.declared.stmt.Handler.{Handler}
use Rattle.py_ast.specs.declared.stmt.Manager.{Manager}
use Rattle.py_ast.specs.declared.stmt.Declared.{Declared}
use Rattle.py_ast.specs.declared.stmt.Stmt.{Stmt, fold-roll-Stmt, map-Stmt, roll-Stmt, ind-Stmt}
use Rattle.py_ast.specs.declared.stmt.Stmt.TheOpen.{Stmt-F}
use Rattle.py_ast.specs.declared.scoped.ScopeKind.TheVariants as kind
use Rattle.py_scopes.specs.declared.survey.Role.TheVariants as role
use Rattle.py_scopes.specs.declared.survey.What.{What}
use Rattle.py_scopes.specs.declared.survey.What.TheVariants as what
use Rattle.py_scopes.specs.declared.survey.Place.{Place}
use Rattle.py_scopes.specs.declared.survey.Survey.{Survey}
use Rattle.py_scopes.specs.Parts as parts
use Rattle.py_scopes.specs.Survey as survey
use Rattle.py_scopes.specs.Survey.{Adds as Adding, all, branch_adds, manager_adds, handler_adds, looping, handling, finishing, class_name, is_generator_kind}
use Rattle.py_scopes.specs.Homes.{somewhere}
use Rattle.py_scopes.specs.Rules.{is_function, kind_of}
use Rattle.py_scopes.specs.Resolve.{scopes_of, is_yield}
use Rattle.py_meaning.specs.Syntax as syntax
use Rattle.py_meaning.specs.Resolved as resolved
use Rattle.py_meaning.specs.Resolved.{Context, Making, pure, made, and_then, code, header, inside, shape, handed, home_in, augmented_op, Piece, block, first_of, alone}
use Rattle.py_meaning.specs.Scopes.{cells_for}
use Rattle.py_safe.specs.Rosters.{OfClass}
use Rattle.py_safe.specs.Constructs.{Room, in_clause, outside_clause, IsFalse, HasHome, LawfulExpression, LawfulOperands, LawfulTarget, LawfulTargets, IsSingle, LawfulDeletion, LawfulCaught, LawfulDecorators, LawfulStatement, LawfulBlock, LawfulHandlers, LawfulBody, RunAs, bound_in}
use Rattle.py_accepted.proofs.Names.{scope_at}
use Rattle.py_accepted.proofs.Homes.{RoomFits}
use Rattle.py_accepted.proofs.Doing.{Case, Does, Stands, Adds, adds_both, nothing, chain, made_of, two, three, four, ahead, behind, only, stands_still, wider}
use Rattle.py_accepted.proofs.Places.{context, At, at_name, any_name, any_site, at_break, at_reraise, no_yield}
use Rattle.py_accepted.proofs.Inner.{own, inner_room, names_of, Facts, IsScope, scope_does, class_is, entered}
use Rattle.py_accepted.proofs.Parts.{Parameters, no_param, required, optional, slash, starred, double, same_by, same_under}
use Rattle.py_accepted.proofs.Expressions.{augmented_takes, expr_good}
use Rattle.py_accepted.proofs.Functions.{function_does, both_of}

object_is_built_in : is_among built_in_names (codes "object") ≡ true
unfolding built_in_names
object_is_built_in = refl

-- Where a statement stands: in an `except` clause its room has one, and what it unbinds may be unbound

abbrev pub Within : Case → ℕ → Place → List (List ℕ) → Room → Type 0
Within z k place ps r = At z k place ps r × (IsTrue place.in_except → IsTrue r.handler) × (IsFalse r.names → r.bound ≡ 0)

room_again : {s : Survey} {t : ℕ} {ps : List (List ℕ)} {r : Room} (b : Bool) → RoomFits s t ps r → RoomFits s t ps (record r { handler = b })
room_again b f = record { there = f.there; locals = f.locals; owns = f.owns; frees = f.frees; names = f.names; inner = f.inner }

module _ (z : Case) (k : ℕ) (place : Place) (ps : List (List ℕ)) (r : Room) where
  in_loop : Within z k place ps r → Within z k (looping place) ps r
  in_loop e = (record { scope = e.0.scope; class = e.0.class; room = e.0.room; yields = e.0.yields }, e.1, e.2)

  in_handler : Within z k place ps r → Within z k (handling place) ps (in_clause r)
  in_handler e = (record { scope = e.0.scope; class = e.0.class; room = room_again true e.0.room; yields = e.0.yields }, (λ h. refl), e.2)

  in_last : Within z k place ps r → Within z k (finishing place) ps (outside_clause r)
  in_last e = (record { scope = e.0.scope; class = e.0.class; room = room_again false e.0.room; yields = e.0.yields }, (λ h. h), e.2)

-- a statement that is lawful wherever it stands
pub record Good (f : Adding) (m : Piece) : Type 0 where
  pub does : (z : Case) (k : ℕ) (place : Place) (ps : List (List ℕ)) (r : Room) → Does z k (Within z k place ps r) (LawfulStatement z.roster r place.in_loop) (f place) (m (context z place ps))

abbrev Sure : Type 0
Sure = (x : Stmt) × Good (survey.stmt x) (resolved.stmt x)

abbrev seen_all : List Sure → List Adding
seen_all xs = map survey.stmt (map (λ e. e.0) xs)

abbrev meant_all : List Sure → List Piece
meant_all xs = map resolved.stmt (map (λ e. e.0) xs)

first_lawful : (z : Case) (r : Room) (loop : Bool) (b : syntax.Block) → LawfulBlock z.roster r loop b → LawfulStatement z.roster r loop (first_of b)
first_lawful z r loop syntax.Done h = tt
first_lawful z r loop (syntax.Then s rest) h = h.0

def_params : (ps : List (Param Expr)) → Parameters (map (parts.param_of survey.expr) ps) (map (parts.param_of resolved.expr) ps)
def_params [] = no_param
def_params (param.Named l x None ∷ ps) = required l l x x (def_params ps)
def_params (param.Named l x (Some d) ∷ ps) = optional l l x x (expr_good d) (def_params ps)
def_params (param.Slash l ∷ ps) = slash l l (def_params ps)
def_params (param.Star l x ∷ ps) = starred l l x x (def_params ps)
def_params (param.DoubleStar l x ∷ ps) = double l l x x (def_params ps)

module _ (z : Case) (k : ℕ) (place : Place) (ps : List (List ℕ)) (r : Room) where
  abbrev c : Context
  c = context z place ps

  abbrev F : Type 0
  F = Within z k place ps r

  -- Expressions in statements

  value_does : (x : Expr) → Does z k F (LawfulExpression z.roster r) (survey.value x place) ((resolved.expr x).value c)
  value_does x = wider z (omega arith) (λ e. e.0) ((expr_good x).value z k place ps r)

  target_does : (x : Expr) → Does z k F (LawfulTarget z.roster r) (survey.target x place) ((resolved.expr x).target c)
  target_does x = wider z (omega arith) (λ e. e.0) ((expr_good x).target z k place ps r)

  augmented_does : (x : Expr) → Does z k F (λ t. IsSingle z.roster t × LawfulTarget z.roster r t) (survey.expr x role.Augmented place) ((resolved.expr x).target c)
  augmented_does x = wider z (omega arith) (λ e. e.0) ((expr_good x).augmented z k place ps r)

  deleted_does : (x : Expr) → Does z k F (λ t. (IsFalse r.names → r.bound ≡ 0) → LawfulDeletion z.roster r t) (survey.expr x role.Deleted place) ((resolved.expr x).target c)
  deleted_does x = wider z (omega arith) (λ e. e.0) ((expr_good x).deleted z k place ps r)

  targets_do : (xs : List Expr) → Does z k F (LawfulTargets z.roster r) (all (map survey.target xs) place) (resolved.targets c (map resolved.expr xs))
  targets_do [] = nothing z syntax.NoTarget (λ e. tt)
  targets_do (x ∷ xs) = two z syntax.AlsoTo (target_does x) (targets_do xs) (λ e t ts p q. (p, q))

  value_of_does : (x : Option Expr) → Does z k F (LawfulExpression z.roster r) (survey.value_of x place) (resolved.value_of c x)
  value_of_does None = nothing z resolved.none (λ e. tt)
  value_of_does (Some x) = value_does x

  target_of_does : (x : Option Expr) → Does z k F (LawfulTargets z.roster r) (survey.target_of x place) (resolved.target_of c x)
  target_of_does None = nothing z syntax.NoTarget (λ e. tt)
  target_of_does (Some x) = two z syntax.AlsoTo (target_does x) (nothing z syntax.NoTarget (λ e. tt)) (λ e t ts p q. (p, q))

  texts_do : (x : Option Expr) → Does z k F (LawfulOperands z.roster r [] (Some operand.Value)) (survey.value_of x place) (resolved.texts c x)
  texts_do None = nothing z syntax.NoMore (λ e. tt)
  texts_do (Some x) = two z syntax.More (value_does x) (nothing z syntax.NoMore (λ e. tt)) (λ e t ts p q. (tt, p, q))

  abbrev decorator : Expr → syntax.Expression → List syntax.Decorator → List syntax.Decorator
  decorator x v ds = (record { line = line_of x; is = v }) ∷ ds

  decorators_do : (xs : List Expr) → Does z k F (LawfulDecorators z.roster r) (survey.values (map survey.expr xs) place) (resolved.decorators c xs)
  decorators_do [] = nothing z [] (λ e. tt)
  decorators_do (x ∷ xs) = two z (decorator x) (value_does x) (decorators_do xs) (λ e v ds p q. (p, q))

  decorated_do : (line : ℕ) (xs : List Expr) (x : List ℕ) → Does z k F (λ ds. LawfulDecorators z.roster r ds × HasHome r (home_in c x)) (survey.decorated line xs x place) (resolved.decorators c xs)
  decorated_do line xs x = behind z (decorators_do xs) (same_under z (λ (e : F). e.0) (at_name z place ps r line what.Binds (λ y. refl) x)) (λ e h ds p. (p, h.0))

  declared_do : (w : List ℕ → What) (xs : List Declared) → Stands z k F (Unit {0}) (all (map (survey.declared w) xs) place)
  declared_do w [] = stands_still z
  declared_do w (x ∷ xs) =
      let a = any_name z {k = k} {facts = F} place x.line w x.name in
      let b = declared_do w xs in
      record { adds = adds_both z a.adds b.adds; here = λ e s l p. let h = a.here e s l (b.adds (survey.declared w x place s) p) in ((b.here e (survey.declared w x place s) (omega (arith, l, ap length h.0)) p).0 ∙ h.0, tt) }

  -- Blocks

  block_does : (xs : List Sure) → Does z k F (LawfulBlock z.roster r place.in_loop) (all (seen_all xs) place) (block c (meant_all xs))
  block_does [] = nothing z syntax.Done (λ e. tt)
  block_does (x ∷ xs) = two z syntax.Then (x.1.does z k place ps r) (block_does xs) (λ e s b p q. (p, q))

  joined_do : (xs ys : List Sure) → Does z k F (LawfulBlock z.roster r place.in_loop) (λ s. all (seen_all ys) place (all (seen_all xs) place s)) (block c (meant_all xs ++ meant_all ys))
  joined_do [] ys = block_does ys
  joined_do (x ∷ xs) ys = two z syntax.Then (x.1.does z k place ps r) (joined_do xs ys) (λ e s b p q. (p, q))

  abbrev branch_alone : ℕ → syntax.Expression → syntax.Block → syntax.Block → syntax.Block
  branch_alone line t body o = alone (syntax.If line t body o)

  branches_do : (bs : List (Branch Sure)) (other : List Sure) → Does z k F (LawfulBlock z.roster r place.in_loop)
      (λ s. all (seen_all other) place (all (map branch_adds (map (parts.branch_of survey.stmt) (map (parts.branch_of (λ e. e.0)) bs))) place s))
      (resolved.branches c (map (parts.branch_of resolved.stmt) (map (parts.branch_of (λ e. e.0)) bs)) (block c (meant_all other)))
  branches_do [] other = block_does other
  branches_do (b ∷ bs) other = three z (branch_alone b.line) (value_does b.test) (block_does b.body) (branches_do bs other) (λ e t x o p q w. ((p, q, w), tt))

  abbrev with_alone : ℕ → syntax.Expression → syntax.Targets → syntax.Block → syntax.Block
  with_alone line v t b = alone (syntax.With line v t b)

  managers_do : (ms : List Manager) (body : List Sure) → Does z k F (LawfulBlock z.roster r place.in_loop)
      (λ s. all (seen_all body) place (all (map manager_adds ms) place s)) (resolved.managers c ms (block c (meant_all body)))
  managers_do [] body = block_does body
  managers_do (m ∷ ms) body = three z (with_alone (line_of m.value)) (value_does m.value) (target_of_does m.target) (managers_do ms body) (λ e v t b p q w. ((p, q, w), tt))

-- Parts that stand in another place, or in another room

module _ (z : Case) (k : ℕ) (place : Place) (ps : List (List ℕ)) (r : Room) where
  abbrev d : Context
  d = context z place ps

  abbrev G : Type 0
  G = Within z k place ps r

  loop_does : (xs : List Sure) → Does z k G (LawfulBlock z.roster r true) (all (seen_all xs) (looping place)) (block d (meant_all xs))
  loop_does xs = wider z (omega arith) (in_loop z k place ps r) (block_does z k (looping place) ps r xs)

  handled_does : (xs : List Sure) → Does z k G (LawfulBlock z.roster (in_clause r) place.in_loop) (all (seen_all xs) (handling place)) (block d (meant_all xs))
  handled_does xs = wider z (omega arith) (in_handler z k place ps r) (block_does z k (handling place) ps (in_clause r) xs)

  last_does : (xs : List Sure) → Does z k G (LawfulBlock z.roster (outside_clause r) place.in_loop) (all (seen_all xs) (finishing place)) (block d (meant_all xs))
  last_does xs = wider z (omega arith) (in_last z k place ps r) (block_does z k (finishing place) ps (outside_clause r) xs)

  caught_does : (line : ℕ) (x : Option (List ℕ)) → Stands z k G (LawfulCaught z.roster r (resolved.bound d line x)) (survey.bound_if line x place)
  caught_does line None = stands_still z
  caught_does line (Some x) =
      let a = at_name z {k = k} place ps r line what.Binds (λ y. refl) x in
      record { adds = a.adds; here = λ e s l p. let h = a.here e.0 s l p in (h.0, (h.1.0, h.1.1 e.2)) }

  abbrev bare_of : syntax.Block → syntax.Handlers → syntax.Handlers
  bare_of body others = syntax.Bare body

  clause_does : (line : ℕ) (class : Option Expr) (name : Option (List ℕ)) (body : List Sure) {f : Survey → Survey} {m : Making syntax.Handlers} → Does z k G (LawfulHandlers z.roster r place.in_loop) f m
      → Does z k G (LawfulHandlers z.roster r place.in_loop) (λ s. f (all (seen_all body) (handling place) (survey.bound_if line name place (survey.value_of class place s))))
      (resolved.clause_made d (record { line = line; class = class; name = name; body = meant_all body }) class m)
  clause_does line None name body rest =
      two z bare_of (ahead z (caught_does line name) (handled_does body) (λ e u b p. p)) rest (λ e b hs p q. p)
  clause_does line (Some x) name body rest =
      three z (λ v b hs. syntax.Handler (line_of x) v (resolved.bound d line name) b hs) (value_does z k place ps r x)
      (ahead z (caught_does line name) (handled_does body) (λ e u b p. both_of u p)) rest (λ e v b hs p q w. (p, q.0, q.1, w))

  handlers_do : (hs : List (Handler Sure)) → Does z k G (LawfulHandlers z.roster r place.in_loop)
      (all (map handler_adds (map (parts.handler_of survey.stmt) (map (parts.handler_of (λ e. e.0)) hs))) place)
      (resolved.handlers d (map (parts.handler_of resolved.stmt) (map (parts.handler_of (λ e. e.0)) hs)))
  handlers_do [] = nothing z syntax.NoHandler (λ e. tt)
  handlers_do (h ∷ hs) = clause_does h.line h.class h.name h.body (handlers_do hs)

  abbrev try_alone : syntax.Block → syntax.Handlers → syntax.Block → syntax.Block
  try_alone b hs o = alone (syntax.Try b hs o)

  abbrev guarded_adds : List Sure → List (Handler Sure) → List Sure → Survey → Survey
  guarded_adds body hs other s = all (seen_all other) place (all (map handler_adds (map (parts.handler_of survey.stmt) (map (parts.handler_of (λ e. e.0)) hs))) place (all (seen_all body) place s))

  abbrev guarded_made : List Sure → List (Handler Sure) → List Sure → Making syntax.Block
  guarded_made body hs other = resolved.guarded d (meant_all body) (map (parts.handler_of resolved.stmt) (map (parts.handler_of (λ e. e.0)) hs)) (meant_all other)

  guarded_does : (body : List Sure) (hs : List (Handler Sure)) (other : List Sure) → Does z k G (LawfulBlock z.roster r place.in_loop) (guarded_adds body hs other) (guarded_made body hs other)
  guarded_does body [] other = joined_do z k place ps r body other
  guarded_does body (h ∷ hs) other = three z try_alone (block_does z k place ps r body) (handlers_do (h ∷ hs)) (block_does z k place ps r other) (λ e b k o p q w. ((p, q, w), tt))

  try_does : (body : List Sure) (hs : List (Handler Sure)) (other last : List Sure) → Does z k G (LawfulStatement z.roster r place.in_loop)
      (λ s. all (seen_all last) (finishing place) (guarded_adds body hs other s)) (resolved.finished d (guarded_made body hs other) (meant_all last))
  try_does body hs other [] = made_of z first_of (guarded_does body hs other) (λ e b p. first_lawful z r place.in_loop b p)
  try_does body hs other (x ∷ xs) = two z syntax.Finally (guarded_does body hs other) (last_does (x ∷ xs)) (λ e b l p q. (p, q))

  -- Functions and classes

  abbrev define : ℕ → List ℕ → List syntax.Decorator → syntax.Expression → syntax.Statement
  define line x ds f = syntax.Define line ds f (home_in d x)

  def_does : (line : ℕ) (ds : List Expr) (x : List ℕ) (params : List (Param Expr)) (body : List Sure) → Does z k G (LawfulStatement z.roster r place.in_loop)
      (λ s. survey.function line kind.Function x (map (parts.param_of survey.expr) params) (all (seen_all body)) place (survey.decorated line ds x place s)) (resolved.definition d line ds x params (meant_all body))
  def_does line ds x params body =
      two z (define line x) (decorated_do z k place ps r line ds x)
      (wider z (omega arith) (λ (e : G). e.0)
      (function_does z k place ps r line kind.Function refl refl x (def_params params) (all (seen_all body)) (λ c. made syntax.Statements (block c (meant_all body)))
      (λ n. made_of z syntax.Statements
      (wider z (omega arith) (λ e. (e.1, (λ h. h), (λ h. refl))) (block_does z (suc n) (own kind.Function place n) (names_of (shape d (map (parts.param_of resolved.expr) params))) (inner_room z n kind.Function (shape d (map (parts.param_of resolved.expr) params)) 0) body))
      (λ e b p. (refl, p)))))
      (λ e ds f p q. (p.0, q, p.1))

  base_does : (j : ℕ) (line : ℕ) (x : Option Expr) → Does z j (At z j place ps r) (LawfulExpression z.roster r) (survey.value_of x place) (resolved.base_of d line x)
  base_does j line None = nothing z _ (λ e. (object_is_built_in, tt, tt))
  base_does j line (Some x) = (expr_good x).value z j place ps r

  run_class : (n line : ℕ) (x : List ℕ) → IsScope z n line kind.Class x place → (b : syntax.Body) → RunAs OfClass (code (inside d n handed (Some x)) handed b)
  run_class n line x e b =
      let is = scope_at z.survey n _ e in
      let none : somewhere is_yield n z.survey.sites ≡ false = no_yield z n (ap (λ o. is_function (kind_of o)) e) in
      (ap (λ o. map (λ p. p.0) (header o handed).params) is, ap (λ o. (header o handed).generator) is ∙ ap (λ b. b || is_generator_kind kind.Class) none)

  abbrev class_of : ℕ → List ℕ → List syntax.Decorator → ℕ → syntax.Expression → syntax.Statement
  class_of line x ds n b = syntax.Class line ds x b (z.first + n) (cells_for (scopes_of z.survey) place.scope n) (home_in d x)

  abbrev class_made : ℕ → List ℕ → Option Expr → List Sure → ℕ → Option (List ℕ) → Making (syntax.Expression × syntax.Body)
  class_made line x base body n class = and_then (resolved.base_of d line base) (λ a. made (both_of a) (made syntax.Statements (block (inside d n handed class) (meant_all body))))

  class_scope : (line : ℕ) (x : List ℕ) (base : Option Expr) (body : List Sure) (ds : List syntax.Decorator) → LawfulDecorators z.roster r ds × HasHome r (home_in d x)
      → Does z k (At z k place ps r) (LawfulStatement z.roster r place.in_loop)
      (λ s. all (seen_all body) (survey.inside kind.Class place s) (survey.value_of base place (survey.enter line kind.Class x place s)))
      (resolved.scoped d handed (Some x) (resolved.base_of d line base) (λ c. made syntax.Statements (block c (meant_all body))) (class_of line x ds))
  class_scope line x base body ds h =
      scope_does z {k = k} place ps r line kind.Class x handed (Some x) 1
      {P = λ (a : syntax.Expression × syntax.Body). LawfulExpression z.roster r a.0}
      {f = λ n s. all (seen_all body) (own kind.Class place n) (survey.value_of base place s)}
      (λ n. class_made line x base body n (Some x))
      (λ a. a.1)
      (λ n a. class_of line x ds n a.0)
      refl (omega arith) (λ n e b. run_class n line x e b)
      (λ n. same_by z (class_made line x base body n (class_name z.survey (Some n))) (class_made line x base body n (Some x)) (λ e. ap (class_made line x base body n) (class_is z n line kind.Class x place e.2))
      (two z {Q = λ (b : syntax.Body). (bound_in OfClass b ≡ 1) × LawfulBody z.roster (inner_room z n kind.Class handed 1) b} both_of (wider z (omega arith) (λ (e : Facts z n line kind.Class x place ps r handed 1). e.0) (base_does (suc n) line base))
      (made_of z syntax.Statements
      (wider z (omega arith) (λ e. (e.1, (λ h. h), (λ h. absurd h))) (block_does z (suc n) (own kind.Class place n) (names_of handed) (inner_room z n kind.Class handed 1) body))
      (λ e b p. both_of refl p))
      (λ e a b p q. (p, q.0, q.1))))
      (λ n a p m. (h.0, p, m, h.1))

  class_adds : (line : ℕ) (x : List ℕ) (base : Option Expr) (body : List Sure) → Adds z (λ s. all (seen_all body) (survey.inside kind.Class place s) (survey.value_of base place (survey.enter line kind.Class x place s)))
  class_adds line x base body s p =
      let n = length s.scopes in
      (entered z line kind.Class x place s ((base_does (suc n) line base).adds _ ((block_does z (suc n) (own kind.Class place n) (names_of handed) (inner_room z n kind.Class handed 1) body).adds _ p))).0

  class_does : (line : ℕ) (ds : List Expr) (x : List ℕ) (base : Option Expr) (body : List Sure) → Does z k G (LawfulStatement z.roster r place.in_loop)
      (λ s. all (seen_all body) (survey.inside kind.Class place (survey.decorated line ds x place s)) (survey.value_of base place (survey.enter line kind.Class x place (survey.decorated line ds x place s))))
      (resolved.class d line ds x base (meant_all body))
  class_does line ds x base body =
      chain z (λ decorated. resolved.scoped d handed (Some x) (resolved.base_of d line base) (λ c. made syntax.Statements (block c (meant_all body))) (class_of line x decorated))
      (decorated_do z k place ps r line ds x) (class_adds line x base body)
      (λ decorated h. wider z (omega arith) (λ (e : G). e.0) (class_scope line x base body decorated h))

-- Statements

abbrev bare : Stmt-F Sure → Stmt-F Stmt
bare y = map-Stmt Sure Stmt (λ e. e.0) y

abbrev Layer : Stmt-F Sure → Type 0
Layer y = Good (survey.stmt_adds (map-Stmt Stmt Adding survey.stmt (bare y))) (resolved.stmt_piece (map-Stmt Stmt Piece resolved.stmt (bare y)))

layer_good : (y : Stmt-F Sure) → Layer y
layer_good (Stmt-F.Expr line x) = record { does = λ z k place ps r. made_of z syntax.Evaluate (value_does z k place ps r x) (λ e v p. p) }
layer_good (Stmt-F.Assign line xs x) = record { does = λ z k place ps r. two z syntax.Assign (targets_do z k place ps r xs) (value_does z k place ps r x) (λ e ts v p q. (p, q)) }
layer_good (Stmt-F.Augment line t sign x) = record { does = λ z k place ps r. two z (syntax.Augment line (augmented_op sign)) (augmented_does z k place ps r t) (value_does z k place ps r x) (λ e t v p q. (augmented_takes sign, p.0, p.1, q)) }
layer_good (Stmt-F.Pass line) = record { does = λ z k place ps r. nothing z syntax.Pass (λ e. tt) }
layer_good (Stmt-F.Break line) = record { does = λ z k place ps r. only z (at_break z place line) syntax.Break (λ e h. h) }
layer_good (Stmt-F.Continue line) = record { does = λ z k place ps r. only z (at_break z place line) syntax.Continue (λ e h. h) }
layer_good (Stmt-F.Return line x) = record { does = λ z k place ps r. ahead z (any_site z place line what.Return) (made_of z syntax.Return (value_of_does z k place ps r x) (λ e v p. p)) (λ e u s p. p) }
layer_good (Stmt-F.Raise line None) = record { does = λ z k place ps r. only z (at_reraise z place line) syntax.Reraise (λ e h. e.1 h) }
layer_good (Stmt-F.Raise line (Some x)) = record { does = λ z k place ps r. made_of z (syntax.Raise line) (value_does z k place ps r x) (λ e v p. p) }
layer_good (Stmt-F.Del line x) = record { does = λ z k place ps r. made_of z syntax.Delete (deleted_does z k place ps r x) (λ e t p. p e.2) }
layer_good (Stmt-F.Assert line x y) = record { does = λ z k place ps r. two z (syntax.Assert line) (value_does z k place ps r x) (texts_do z k place ps r y) (λ e v t p q. (p, q)) }
layer_good (Stmt-F.Global line xs) = record { does = λ z k place ps r. only z (declared_do z k place ps r what.Global xs) syntax.Pass (λ e h. tt) }
layer_good (Stmt-F.Nonlocal line xs) = record { does = λ z k place ps r. only z (declared_do z k place ps r what.Nonlocal xs) syntax.Pass (λ e h. tt) }
layer_good (Stmt-F.If line bs other) = record { does = λ z k place ps r. made_of z first_of (branches_do z k place ps r bs other) (λ e b p. first_lawful z r place.in_loop b p) }
layer_good (Stmt-F.While line x body other) = record { does = λ z k place ps r. three z (syntax.While line) (value_does z k place ps r x) (loop_does z k place ps r body) (block_does z k place ps r other) (λ e t b o p q w. (p, q, w)) }
layer_good (Stmt-F.For line t x body other) = record {
  does = λ z k place ps r.
      four z (syntax.For line) (target_does z k place ps r t) (value_does z k place ps r x) (loop_does z k place ps r body) (block_does z k place ps r other) (λ e t v b o p q w s. (p, q, w, s));
}
layer_good (Stmt-F.Try line body hs other last) = record { does = λ z k place ps r. try_does z k place ps r body hs other last }
layer_good (Stmt-F.With line ms body) = record { does = λ z k place ps r. made_of z first_of (managers_do z k place ps r ms body) (λ e b p. first_lawful z r place.in_loop b p) }
layer_good (Stmt-F.Def line ds x params body) = record { does = λ z k place ps r. def_does z k place ps r line ds x params body }
layer_good (Stmt-F.Class line ds x base body) = record { does = λ z k place ps r. class_does z k place ps r line ds x base body }

pub stmt_good : (x : Stmt) → Good (survey.stmt x) (resolved.stmt x)
stmt_good = ind-Stmt (λ x. Good (survey.stmt x) (resolved.stmt x)) (λ x y is.
    subst (λ w. Good (survey.stmt (roll-Stmt w)) (resolved.stmt (roll-Stmt w))) is
    (subst (λ f. Good f (resolved.stmt (roll-Stmt (bare y)))) (sym (fold-roll-Stmt Adding survey.stmt_adds (bare y)))
    (subst (λ m. Good (survey.stmt_adds (map-Stmt Stmt Adding survey.stmt (bare y))) m) (sym (fold-roll-Stmt Piece resolved.stmt_piece (bare y))) (layer_good y))))

pub stmts_do : (z : Case) (k : ℕ) (place : Place) (ps : List (List ℕ)) (r : Room) (xs : List Stmt) → Does z k (Within z k place ps r) (LawfulBlock z.roster r place.in_loop) (survey.stmts xs place) (block (context z place ps) (map resolved.stmt xs))
stmts_do z k place ps r [] = nothing z syntax.Done (λ e. tt)
stmts_do z k place ps r (x ∷ xs) = two z syntax.Then ((stmt_good x).does z k place ps r) (stmts_do z k place ps r xs) (λ e s b p q. (p, q))
