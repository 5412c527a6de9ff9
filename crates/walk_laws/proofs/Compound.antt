-- Compound statements, as they are made and as they are walked.
use Rattle.std.proofs.Common.{◌≡◌, ℕ, ◌+◌, List, [], ◌∷◌, ◌++◌, map, Option, Some, None, refl, sym, ap, ◌∙◌}
use Rattle.py_ast.specs.Lines.{line_of}
use Rattle.py_ast.specs.declared.expr.Expr.{Expr}
use Rattle.py_ast.specs.declared.stmt.Branch.{Branch}
use Rattle.py_ast.specs.declared.stmt.Handler.{Handler}
use Rattle.py_ast.specs.declared.stmt.Manager.{Manager}
use Rattle.py_ast.specs.declared.stmt.Stmt.{Stmt}
use Rattle.py_scopes.specs.Parts.{branch_of, handler_of}
use Rattle.node_tree.specs.Blocks as tree
use Rattle.node_tree.proofs.Direct.{append_stop}
use Rattle.py_meaning.specs.Syntax as syntax
use Rattle.py_meaning.specs.Resolved as meaning
use Rattle.py_meaning.specs.Resolved.{Context, Making}
use Rattle.carried_codes.specs.Clauses as clauses
use Rattle.carried_codes.specs.Statements as statements
use Rattle.carried_codes.specs.Nodes as nodes
use Rattle.walk_laws.specs.States.{Walking, walked, coded, and_then, done, at}
use Rattle.walk_laws.specs.Contexts.{homes_in}
use Rattle.walk_laws.specs.Expressions.{expr}
use Rattle.walk_laws.specs.Statements as walk
use Rattle.walk_laws.specs.Composed.{Out, As, block_at, statement_at, ExpressionsAreWalked}
use Rattle.walk_laws.proofs.Threads.{out, block_out, parts_out, behind, nothing, two, three, four, codes_joined}
use Rattle.walk_laws.proofs.Targets.{bound_walked}
use Rattle.walk_laws.proofs.Simple.{value_walked, bound_all_walked}

-- a statement that is walked as it means, wherever it stands
pub record Alike (m : meaning.Piece) (w : walk.Piece) : Type 0 where
  pub alike : (c : Context) (caught : Option ℕ) → As (statement_at c caught) (m c) (w c caught)

abbrev pub Sure : Type 0
Sure = (x : Stmt) × Alike (meaning.stmt x) (walk.stmt x)

abbrev pub meant : List Sure → List meaning.Piece
meant xs = map meaning.stmt (map (λ e. e.0) xs)

abbrev pub gone : List Sure → List walk.Piece
gone xs = map walk.stmt (map (λ e. e.0) xs)

abbrev pub meant_branches : List (Branch Sure) → List (Branch meaning.Piece)
meant_branches bs = map (branch_of meaning.stmt) (map (branch_of (λ e. e.0)) bs)

abbrev pub gone_branches : List (Branch Sure) → List (Branch walk.Piece)
gone_branches bs = map (branch_of walk.stmt) (map (branch_of (λ e. e.0)) bs)

abbrev pub meant_handlers : List (Handler Sure) → List (Handler meaning.Piece)
meant_handlers hs = map (handler_of meaning.stmt) (map (handler_of (λ e. e.0)) hs)

abbrev pub gone_handlers : List (Handler Sure) → List (Handler walk.Piece)
gone_handlers hs = map (handler_of walk.stmt) (map (handler_of (λ e. e.0)) hs)

-- what is made behind the first part goes, with its temporaries: the codes in it stay
ahead : {A B C P Q R : Type 0} {fa : ℕ → A → Out P} {fb : ℕ → B → Out Q} {f : ℕ → C → Out R} {ma : Making A} {mb : Making B} {wa : Walking P} {wb : Walking Q}
    (k : A → B → C) (h : P → R) → ((t : ℕ) (x : A) (y : B) → f t (k x y) ≡ out (h (fa t x).is) (fa t x).next) → As fa ma wa → As fb mb wb
    → As f (meaning.and_then ma (λ x. meaning.made (k x) mb)) (λ s. let p = wa s in let q = wb p.state in walked (h p.is) (at p.state.temp q.state))
ahead {fa = fa} {ma = ma} {mb = mb} {wb = wb} k h e a b = record {
  same = λ s.
      let x = ma s.scope in
      let y = mb x.next in
      let p = fa s.temp x.is in
      ap (λ r. let q = wb r.state in walked (h r.is) (at r.state.temp q.state)) (a.same s)
      ∙ ap (λ q. walked (h p.is) (at p.next q.state)) (b.same (behind fa ma s))
      ∙ ap (λ cs. walked (h p.is) (record { temp = p.next; scope = y.next; codes = cs })) (codes_joined s.codes x.codes y.codes)
      ∙ ap (λ o. walked o.is (record { temp = o.next; scope = y.next; codes = s.codes ++ map coded (x.codes ++ y.codes) })) (sym (e s.temp x.is y.is));
}

-- a block of one statement
as_block : (c : Context) (caught : Option ℕ) {w : Walking tree.Block} (m : Making syntax.Statement) → As (statement_at c caught) m w → As (block_at c caught) (meaning.made meaning.alone m) w
as_block c caught m a = record {
  same = λ s.
      let x = m s.scope in
      let r = nodes.statement (homes_in c) caught s.temp x.is in
      a.same s ∙ ap (λ b. walked b (record { temp = r.next; scope = x.next; codes = s.codes ++ map coded x.codes })) (sym (append_stop r.block));
}

module _ (known : ExpressionsAreWalked) (c : Context) (caught : Option ℕ) where
  abbrev S : ℕ → syntax.Statement → Out tree.Block
  S = statement_at c caught

  abbrev B : ℕ → syntax.Block → Out tree.Block
  B = block_at c caught

  -- Blocks

  pub block_walked : (xs : List Sure) → As B (meaning.block c (meant xs)) (walk.block c caught (gone xs))
  block_walked [] = nothing syntax.Done tree.Stop (λ t. refl)
  block_walked (x ∷ xs) = two syntax.Then (λ b r t. out (tree.append b r) t) (λ t x y. refl) (x.1.alike c caught) (block_walked xs)

  joined_walked : (xs ys : List Sure) → As B (meaning.block c (meant xs ++ meant ys)) (walk.block c caught (gone xs ++ gone ys))
  joined_walked [] ys = block_walked ys
  joined_walked (x ∷ xs) ys = two syntax.Then (λ b r t. out (tree.append b r) t) (λ t x y. refl) (x.1.alike c caught) (joined_walked xs ys)

  abbrev first_then : syntax.Statement → syntax.Block → syntax.Statement
  first_then s rest = s

  first_walked : (xs : List Sure) → As S (meaning.made meaning.first_of (meaning.block c (meant xs))) (walk.first_of c caught (gone xs))
  first_walked [] = nothing syntax.Pass tree.Stop (λ t. refl)
  first_walked (x ∷ xs) = ahead first_then (λ b. b) (λ t x y. refl) (x.1.alike c caught) (block_walked xs)

  first_joined : (xs ys : List Sure) → As S (meaning.made meaning.first_of (meaning.block c (meant xs ++ meant ys))) (walk.first_of c caught (gone xs ++ gone ys))
  first_joined [] ys = first_walked ys
  first_joined (x ∷ xs) ys = ahead first_then (λ b. b) (λ t x y. refl) (x.1.alike c caught) (joined_walked xs ys)

  -- Choices and loops

  abbrev if_made : Branch Sure → Making syntax.Block → Making syntax.Statement
  if_made b m = meaning.and_then ((meaning.expr b.test).value c) (λ t. meaning.and_then (meaning.block c (meant b.body)) (λ body. meaning.made (syntax.If b.line t body) m))

  abbrev if_gone : Branch Sure → Walking tree.Block → Walking tree.Block
  if_gone b w = and_then ((expr b.test).value c) (λ v. and_then (walk.block c caught (gone b.body)) (λ body. and_then w (λ o. done (statements.branch b.line v body o))))

  if_walked : (b : Branch Sure) (m : Making syntax.Block) (w : Walking tree.Block) → As B m w → As S (if_made b m) (if_gone b w)
  if_walked b m w a = three (syntax.If b.line) (λ v body o t. block_out (statements.branch b.line v body o t)) (λ t x y z. refl) (value_walked known c b.test) (block_walked b.body) a

  branches_walked : (bs : List (Branch Sure)) (other : List Sure)
      → As B (meaning.branches c (meant_branches bs) (meaning.block c (meant other))) (walk.branches c caught (gone_branches bs) (walk.block c caught (gone other)))
  branches_walked [] other = block_walked other
  branches_walked (b ∷ bs) other =
      let m = meaning.branches c (meant_branches bs) (meaning.block c (meant other)) in
      as_block c caught (if_made b m) (if_walked b m (walk.branches c caught (gone_branches bs) (walk.block c caught (gone other))) (branches_walked bs other))

  pub if_any_walked : (bs : List (Branch Sure)) (other : List Sure)
      → As S (meaning.made meaning.first_of (meaning.branches c (meant_branches bs) (meaning.block c (meant other)))) (walk.if_any c caught (gone_branches bs) (gone other))
  if_any_walked [] other = first_walked other
  if_any_walked (b ∷ bs) other =
      if_walked b (meaning.branches c (meant_branches bs) (meaning.block c (meant other))) (walk.branches c caught (gone_branches bs) (walk.block c caught (gone other))) (branches_walked bs other)

  pub while_walked : (line : ℕ) (x : Expr) (body other : List Sure)
      → As S (meaning.and_then ((meaning.expr x).value c) (λ t. meaning.and_then (meaning.block c (meant body)) (λ b. meaning.made (syntax.While line t b) (meaning.block c (meant other)))))
      (walk.while_loop c caught line x (gone body) (gone other))
  while_walked line x body other =
      three (syntax.While line) (λ v b o t. block_out (statements.while_loop line v b o t)) (λ t x y z. refl) (value_walked known c x) (block_walked body) (block_walked other)

  pub for_walked : (line : ℕ) (to over : Expr) (body other : List Sure)
      → As S (meaning.and_then ((meaning.expr to).target c) (λ t. meaning.and_then ((meaning.expr over).value c) (λ x.
      meaning.and_then (meaning.block c (meant body)) (λ b. meaning.made (syntax.For line t x b) (meaning.block c (meant other))))))
      (walk.for_loop c caught line to over (gone body) (gone other))
  for_walked line to over body other =
      four (syntax.For line) (λ i v b o t. block_out (statements.for_loop line v i.0 i.1 b o t)) (λ t x y z w. refl)
      (bound_walked c (known to)) (value_walked known c over) (block_walked body) (block_walked other)

  -- Items of `with`

  abbrev with_made : Manager → Making syntax.Block → Making syntax.Statement
  with_made m rest = meaning.and_then ((meaning.expr m.value).value c) (λ v. meaning.and_then (meaning.target_of c m.target) (λ t. meaning.made (syntax.With (line_of m.value) v t) rest))

  abbrev with_gone : Manager → Walking tree.Block → Walking tree.Block
  with_gone m rest = and_then ((expr m.value).value c) (λ v s. and_then (walk.bind_any c m.target) (λ i. and_then rest (λ b. done (statements.with_item (line_of m.value) v s.temp i b))) s)

  with_walked : (m : Manager) (rest : Making syntax.Block) (w : Walking tree.Block) → As B rest w → As S (with_made m rest) (with_gone m w)
  with_walked m rest w a =
      three (syntax.With (line_of m.value)) (λ v i b t. block_out (statements.with_item (line_of m.value) v i.0 i.1 b t)) (λ t x y z. refl)
      (value_walked known c m.value) (bound_all_walked known c m.target) a

  managers_walked : (ms : List Manager) (body : List Sure) → As B (meaning.managers c ms (meaning.block c (meant body))) (walk.managers c ms (walk.block c caught (gone body)))
  managers_walked [] body = block_walked body
  managers_walked (m ∷ ms) body =
      let rest = meaning.managers c ms (meaning.block c (meant body)) in
      as_block c caught (with_made m rest) (with_walked m rest (walk.managers c ms (walk.block c caught (gone body))) (managers_walked ms body))

  pub with_statement_walked : (ms : List Manager) (body : List Sure) → As S (meaning.made meaning.first_of (meaning.managers c ms (meaning.block c (meant body)))) (walk.with_statement c caught ms (gone body))
  with_statement_walked [] body = first_walked body
  with_statement_walked (m ∷ ms) body =
      with_walked m (meaning.managers c ms (meaning.block c (meant body))) (walk.managers c ms (walk.block c caught (gone body))) (managers_walked ms body)

-- Clauses

module _ (known : ExpressionsAreWalked) (c : Context) where
  abbrev except_at : ℕ → syntax.Handlers → Out (List clauses.Clause)
  except_at t hs = parts_out (nodes.except (homes_in c) t hs)

  -- the body of a clause, with the temporary of its exception
  abbrev handled_at : ℕ → syntax.Block → Out (ℕ × tree.Block)
  handled_at t b = let m = nodes.block (homes_in c) (Some t) (t + 1) b in out (t, m.block) m.next

  abbrev handled : List Sure → Walking (ℕ × tree.Block)
  handled body s = let b = walk.caught_in c (gone body) s in walked (s.temp, b.is) b.state

  handled_walked : (body : List Sure) → As handled_at (meaning.block c (meant body)) (handled body)
  handled_walked body = record { same = λ s. ap (λ r. walked (s.temp, r.is) r.state) ((block_walked known c (Some s.temp) body).same (at (s.temp + 1) s)) }

  bound_same : (line : ℕ) (name : Option (List ℕ)) → nodes.bound (homes_in c) (meaning.bound c line name) ≡ walk.bound c line name
  bound_same line None = refl
  bound_same line (Some name) = refl

  abbrev bare_of : syntax.Block → syntax.Handlers → syntax.Handlers
  bare_of body others = syntax.Bare body

  clause_walked : (h : Handler Sure) (class : Option Expr) (m : Making syntax.Handlers) (w : Walking (List clauses.Clause)) → As except_at m w
      → As except_at (meaning.clause_made c (record { line = h.line; class = h.class; name = h.name; body = meant h.body }) class m)
      (walk.clause c (record { line = h.line; class = h.class; name = h.name; body = gone h.body }) class w)
  clause_walked h None m w a = ahead bare_of (λ b. clauses.Bare b.0 b.1 ∷ []) (λ t x y. refl) (handled_walked h.body) a
  clause_walked h (Some x) m w a =
      three (λ v b hs. syntax.Handler (line_of x) v (meaning.bound c h.line h.name) b hs)
      (λ v b cs t. out (clauses.Class (line_of x) v b.0 (walk.bound c h.line h.name) b.1 ∷ cs) t)
      (λ t v b hs.
      let p = nodes.value (homes_in c) t v in
      let r = nodes.block (homes_in c) (Some p.next) (p.next + 1) b in
      let cs = nodes.except (homes_in c) r.next hs in
      ap (λ n. out (clauses.Class (line_of x) p.part p.next n r.block ∷ cs.parts) cs.next) (bound_same h.line h.name))
      (value_walked known c x) (handled_walked h.body) a

  handlers_walked : (hs : List (Handler Sure)) → As except_at (meaning.handlers c (meant_handlers hs)) (walk.handlers c (gone_handlers hs))
  handlers_walked [] = nothing syntax.NoHandler [] (λ t. refl)
  handlers_walked (h ∷ hs) = clause_walked h h.class (meaning.handlers c (meant_handlers hs)) (walk.handlers c (gone_handlers hs)) (handlers_walked hs)

  module _ (caught : Option ℕ) where
    abbrev try_made : List Sure → List (Handler Sure) → List Sure → Making syntax.Statement
    try_made body hs other = meaning.and_then (meaning.block c (meant body)) (λ b. meaning.and_then (meaning.handlers c (meant_handlers hs)) (λ k. meaning.made (syntax.Try b k) (meaning.block c (meant other))))

    abbrev try_gone : List Sure → List (Handler Sure) → List Sure → Walking tree.Block
    try_gone body hs other =
        and_then (walk.block c caught (gone body)) (λ b. and_then (walk.handlers c (gone_handlers hs)) (λ cs. and_then (walk.block c caught (gone other)) (λ o. done (λ t. clauses.try_except t b cs o))))

    try_walked : (body : List Sure) (hs : List (Handler Sure)) (other : List Sure) → As (statement_at c caught) (try_made body hs other) (try_gone body hs other)
    try_walked body hs other =
        three syntax.Try (λ b cs o t. block_out (clauses.try_except t b cs o)) (λ t x y z. refl) (block_walked known c caught body) (handlers_walked hs) (block_walked known c caught other)

    guarded_walked : (body : List Sure) (hs : List (Handler Sure)) (other : List Sure)
        → As (block_at c caught) (meaning.guarded c (meant body) (meant_handlers hs) (meant other)) (walk.guarded c caught (gone body) (gone_handlers hs) (gone other))
    guarded_walked body [] other = joined_walked known c caught body other
    guarded_walked body (h ∷ hs) other = as_block c caught (try_made body (h ∷ hs) other) (try_walked body (h ∷ hs) other)

    alone_walked : (body : List Sure) (hs : List (Handler Sure)) (other : List Sure)
        → As (statement_at c caught) (meaning.made meaning.first_of (meaning.guarded c (meant body) (meant_handlers hs) (meant other)))
        (walk.guarded_alone c caught (gone body) (gone_handlers hs) (gone other))
    alone_walked body [] other = first_joined known c caught body other
    alone_walked body (h ∷ hs) other = try_walked body (h ∷ hs) other

    pub try_statement_walked : (body : List Sure) (hs : List (Handler Sure)) (other last : List Sure)
        → As (statement_at c caught) (meaning.finished c (meaning.guarded c (meant body) (meant_handlers hs) (meant other)) (meant last))
        (walk.try_statement c caught (gone body) (gone_handlers hs) (gone other) (gone last))
    try_statement_walked body hs other [] = alone_walked body hs other
    try_statement_walked body hs other (x ∷ xs) =
        two syntax.Finally (λ b l t. block_out (statements.try_finally b l t)) (λ t x y. refl) (guarded_walked body hs other) (block_walked known c None (x ∷ xs))
