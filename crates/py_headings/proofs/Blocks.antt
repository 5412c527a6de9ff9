-- What tokens with lines and names spell is statements that are tidy.
use Rattle.std.proofs.Common.{ℕ, List, [], ◌∷◌, ◌++◌, Option, subst}
use Rattle.std.specs.List.{AllByRecursion}
use Rattle.py_ast.specs.declared.token.Token.{Token}
use Rattle.py_ast.specs.declared.spelled.Word.{Word}
use Rattle.py_ast.specs.declared.expr.Expr.{Expr}
use Rattle.py_ast.specs.declared.stmt.Branch.{Branch}
use Rattle.py_ast.specs.declared.stmt.Handler.{Handler}
use Rattle.py_ast.specs.declared.stmt.Manager.{Manager}
use Rattle.py_ast.specs.declared.stmt.Stmt.{Stmt}
use Rattle.py_ast.specs.declared.stmt.Stmt.TheOpen.{Stmt-F}
use Rattle.py_ast.specs.declared.stmt.Stmt.TheVariants.{rolls-Expr, rolls-Assign, rolls-Augment, rolls-Pass, rolls-Break, rolls-Continue, rolls-Return, rolls-Raise, rolls-Del, rolls-Assert, rolls-Global, rolls-Nonlocal, rolls-If, rolls-While, rolls-For, rolls-Try, rolls-With, rolls-Def, rolls-Class}
use Rattle.py_grammar.specs.Levels.{line}
use Rattle.py_statements.specs.Grammar.{Right, Chain, MaybeExprs, MaybeExpression, Message, Simple, Line, ItemOf, Managers, Decorators, Base, Caught, Compound, Block, Statement, Statements, BranchOf, Elifs, Worded, Handlers}
use Rattle.py_headings.proofs.Tidy.{Tidy, OptionTidy}
use Rattle.py_headings.proofs.Tokens.{Sound, left, right}
use Rattle.py_headings.proofs.Surveyed.{all_joined}
use Rattle.py_headings.proofs.Spelled.{spelled, row_tidy, yields_tidy, params_tidy, param_order, target_tidy}
use Rattle.py_headings.proofs.Statements.{StmtTidy, BlockTidy, BranchTidy, HandlerTidy, ManagerTidy, stmt_tidy}

right_tidy : {h : ℕ} {x : Expr} {ts : List Token} → Right h x ts → Sound ts → Tidy x
right_tidy (Right.exprs a) v = row_tidy a v
right_tidy (Right.yielded a) v = yields_tidy a v

chain_tidy : {h : ℕ} {xs : List Expr} {ts : List Token} → Chain h xs ts → Sound ts → AllByRecursion Tidy xs
chain_tidy (Chain.last {xs = xs} t a is) v = (row_tidy a (left xs (t ∷ []) v), tt)
chain_tidy (Chain.more {xs = xs} {ys = ys} t a is b) v = (row_tidy a (left xs (t ∷ ys) v), chain_tidy b (right xs (t ∷ ys) v).1)

exprs_tidy : {h : ℕ} {x : Option Expr} {ts : List Token} → MaybeExprs h x ts → Sound ts → OptionTidy x
exprs_tidy MaybeExprs.absent v = tt
exprs_tidy (MaybeExprs.present a) v = row_tidy a v

maybe_tidy : {h : ℕ} {x : Option Expr} {ts : List Token} → MaybeExpression h x ts → Sound ts → OptionTidy x
maybe_tidy MaybeExpression.absent v = tt
maybe_tidy (MaybeExpression.present a) v = spelled a v

message_tidy : {h : ℕ} {x : Option Expr} {ts : List Token} → Message h x ts → Sound ts → OptionTidy x
message_tidy Message.absent v = tt
message_tidy (Message.present t is a) v = spelled a v.1

simple_tidy : {h : ℕ} {x : Stmt} {ts : List Token} → Simple h x ts → Sound ts → StmtTidy x
simple_tidy (Simple.expr {x = x} {xs = xs} a) v = subst StmtTidy (rolls-Expr (line xs) x) (stmt_tidy (Stmt-F.Expr (line xs) x) (right_tidy a v))
simple_tidy (Simple.assign {targets = targets} {x = x} {xs = xs} {ys = ys} c a) v =
    subst StmtTidy (rolls-Assign (line xs) targets x) (stmt_tidy (Stmt-F.Assign (line xs) targets x) (chain_tidy c (left xs ys v), right_tidy a (right xs ys v)))
simple_tidy (Simple.augment {o = o} {x = x} {y = y} {xs = xs} {ys = ys} t a is b) v =
    subst StmtTidy (rolls-Augment (line xs) x o y) (stmt_tidy (Stmt-F.Augment (line xs) x o y) (spelled a (left xs (t ∷ ys) v), right_tidy b (right xs (t ∷ ys) v).1))
simple_tidy (Simple.pass t is) v = subst StmtTidy (rolls-Pass t.line) (stmt_tidy (Stmt-F.Pass t.line) tt)
simple_tidy (Simple.break t is) v = subst StmtTidy (rolls-Break t.line) (stmt_tidy (Stmt-F.Break t.line) tt)
simple_tidy (Simple.continue t is) v = subst StmtTidy (rolls-Continue t.line) (stmt_tidy (Stmt-F.Continue t.line) tt)
simple_tidy (Simple.return {x = x} t is a) v = subst StmtTidy (rolls-Return t.line x) (stmt_tidy (Stmt-F.Return t.line x) (exprs_tidy a v.1))
simple_tidy (Simple.raise {x = x} t is a) v = subst StmtTidy (rolls-Raise t.line x) (stmt_tidy (Stmt-F.Raise t.line x) (maybe_tidy a v.1))
simple_tidy (Simple.del {x = x} t is a) v = subst StmtTidy (rolls-Del t.line x) (stmt_tidy (Stmt-F.Del t.line x) (row_tidy a v.1))
simple_tidy (Simple.assert {x = x} {y = y} {xs = xs} {ys = ys} t is a b) v =
    subst StmtTidy (rolls-Assert t.line x y) (stmt_tidy (Stmt-F.Assert t.line x y) (spelled a (left xs ys v.1), message_tidy b (right xs ys v.1)))
simple_tidy (Simple.global {names = names} t is a) v = subst StmtTidy (rolls-Global t.line names) (stmt_tidy (Stmt-F.Global t.line names) tt)
simple_tidy (Simple.nonlocal {names = names} t is a) v = subst StmtTidy (rolls-Nonlocal t.line names) (stmt_tidy (Stmt-F.Nonlocal t.line names) tt)

line_tidy : {h : ℕ} {xs : List Stmt} {ts : List Token} → Line h xs ts → Sound ts → BlockTidy xs
line_tidy (Line.last {xs = xs} t a is) v = (simple_tidy a (left xs (t ∷ []) v), tt)
line_tidy (Line.closed {xs = xs} t u a is end) v = (simple_tidy a (left xs (t ∷ u ∷ []) v), tt)
line_tidy (Line.more {xs = xs} {ys = ys} t a is b) v = (simple_tidy a (left xs (t ∷ ys) v), line_tidy b (right xs (t ∷ ys) v).1)

item_tidy : {h : ℕ} {m : Manager} {ts : List Token} → ItemOf h m ts → Sound ts → ManagerTidy m
item_tidy (ItemOf.bare a form) v = (spelled a v, tt)
item_tidy (ItemOf.named {xs = xs} {ys = ys} t a form is b) v = (spelled a (left xs (t ∷ ys) v), target_tidy b (right xs (t ∷ ys) v).1)

managers_tidy : {h : ℕ} {ms : List Manager} {ts : List Token} → Managers h ms ts → Sound ts → AllByRecursion ManagerTidy ms
managers_tidy (Managers.last a) v = (item_tidy a v, tt)
managers_tidy (Managers.more {xs = xs} {ys = ys} t a is b) v = (item_tidy a (left xs (t ∷ ys) v), managers_tidy b (right xs (t ∷ ys) v).1)

decorators_tidy : {h : ℕ} {ds : List Expr} {ts : List Token} → Decorators h ds ts → Sound ts → AllByRecursion Tidy ds
decorators_tidy Decorators.none v = tt
decorators_tidy (Decorators.more {xs = xs} {ys = ys} t u is a end b) v = (spelled a (left xs (u ∷ ys) v.1), decorators_tidy b (right xs (u ∷ ys) v.1).1)

base_tidy : {h : ℕ} {x : Option Expr} {ts : List Token} → Base h x ts → Sound ts → OptionTidy x
base_tidy Base.absent v = tt
base_tidy (Base.present {xs = xs} t u is a end) v = maybe_tidy a (left xs (u ∷ []) v.1)

caught_tidy : {h : ℕ} {x : Expr} {name : Option (List ℕ)} {ts : List Token} → Caught h x name ts → Sound ts → Tidy x
caught_tidy (Caught.unnamed a) v = spelled a v
caught_tidy (Caught.named {xs = xs} t u a is n) v = spelled a (left xs (t ∷ u ∷ []) v)

mutual
  compound_tidy : {h : ℕ} {x : Stmt} {ts : List Token} → Compound h x ts → Sound ts → StmtTidy x
  compound_tidy (Compound.conditional {b = b} {bs = bs} {other = other} {xs = xs} {ys = ys} {zs = zs} a d e) v =
      let w = left (xs ++ ys) zs v in
      subst StmtTidy (rolls-If b.line (b ∷ bs) other) (stmt_tidy (Stmt-F.If b.line (b ∷ bs) other) ((branch_tidy a (left xs ys w), elifs_tidy d (right xs ys w)), worded_tidy e (right (xs ++ ys) zs v)))
  compound_tidy (Compound.while {b = b} {other = other} {xs = xs} {ys = ys} a e) v =
      let t = branch_tidy a (left xs ys v) in
      subst StmtTidy (rolls-While b.line b.test b.body other) (stmt_tidy (Stmt-F.While b.line b.test b.body other) (t.0, t.1, worded_tidy e (right xs ys v)))
  compound_tidy (Compound.for {x = x} {y = y} {body = body} {other = other} {xs = xs} {ys = ys} {zs = zs} {vs = vs} t u is a within b d e) v =
      let w = left (xs ++ u ∷ ys ++ zs) vs v.1 in let q = left (xs ++ u ∷ ys) zs w in
      subst StmtTidy (rolls-For t.line x y body other)
      (stmt_tidy (Stmt-F.For t.line x y body other) (row_tidy a (left xs (u ∷ ys) q), row_tidy b (right xs (u ∷ ys) q).1, block_tidy d (right (xs ++ u ∷ ys) zs w), worded_tidy e (right (xs ++ u ∷ ys ++ zs) vs v.1)))
  compound_tidy (Compound.catches {body = body} {other = other} {last = last} {c = c} {cs = cs} {xs = xs} {ys = ys} {zs = zs} {vs = vs} t is a d e f) v =
      let w = left (xs ++ ys ++ zs) vs v.1 in let q = left (xs ++ ys) zs w in
      subst StmtTidy (rolls-Try t.line body (c ∷ cs) other last)
      (stmt_tidy (Stmt-F.Try t.line body (c ∷ cs) other last) (block_tidy a (left xs ys q), handlers_tidy d (right xs ys q), worded_tidy e (right (xs ++ ys) zs w), worded_tidy f (right (xs ++ ys ++ zs) vs v.1)))
  compound_tidy (Compound.finishes {body = body} {last = last} {xs = xs} {ys = ys} t u is a end d) v =
      subst StmtTidy (rolls-Try t.line body [] [] last) (stmt_tidy (Stmt-F.Try t.line body [] [] last) (block_tidy a (left xs (u ∷ ys) v.1), tt, tt, block_tidy d (right xs (u ∷ ys) v.1).1))
  compound_tidy (Compound.with {items = items} {body = body} {xs = xs} {ys = ys} t is a d) v =
      subst StmtTidy (rolls-With t.line items body) (stmt_tidy (Stmt-F.With t.line items body) (managers_tidy a (left xs ys v.1), block_tidy d (right xs ys v.1)))
  compound_tidy (Compound.def {ds = ds} {name = name} {ps = ps} {body = body} {xs = xs} {ys = ys} {zs = zs} t u p q a is n left_one b right_one d) v =
      let w = left (xs ++ t ∷ u ∷ p ∷ ys) (q ∷ zs) v in let r = right xs (t ∷ u ∷ p ∷ ys) w in
      subst StmtTidy (rolls-Def t.line ds name ps body)
      (stmt_tidy (Stmt-F.Def t.line ds name ps body) (r.0.from_one, decorators_tidy a (left xs (t ∷ u ∷ p ∷ ys) w), params_tidy b r.1.1.1, param_order b, block_tidy d (right (xs ++ t ∷ u ∷ p ∷ ys) (q ∷ zs) v).1))
  compound_tidy (Compound.class {ds = ds} {name = name} {base = base} {body = body} {xs = xs} {ys = ys} {zs = zs} t u a is n b d) v =
      let w = left (xs ++ t ∷ u ∷ ys) zs v in let r = right xs (t ∷ u ∷ ys) w in
      subst StmtTidy (rolls-Class t.line ds name base body)
      (stmt_tidy (Stmt-F.Class t.line ds name base body) (r.0.from_one, r.1.0.named name n, decorators_tidy a (left xs (t ∷ u ∷ ys) w), base_tidy b r.1.1, block_tidy d (right (xs ++ t ∷ u ∷ ys) zs v)))

  block_tidy : {h : ℕ} {body : List Stmt} {ts : List Token} → Block h body ts → Sound ts → BlockTidy body
  block_tidy (Block.one_line t is a) v = line_tidy a v.1
  block_tidy (Block.indented {first = first} {others = others} {xs = xs} {ys = ys} t n i d is newline indent a b dedent) v =
      let w = left (xs ++ ys) (d ∷ []) v.1.1.1 in
      all_joined StmtTidy first others (statement_tidy a (left xs ys w)) (statements_tidy b (right xs ys w))

  statement_tidy : {h : ℕ} {body : List Stmt} {ts : List Token} → Statement h body ts → Sound ts → BlockTidy body
  statement_tidy (Statement.simple a) v = line_tidy a v
  statement_tidy (Statement.compound a) v = (compound_tidy a v, tt)

  pub statements_tidy : {h : ℕ} {body : List Stmt} {ts : List Token} → Statements h body ts → Sound ts → BlockTidy body
  statements_tidy Statements.none v = tt
  statements_tidy (Statements.more {first = first} {others = others} {xs = xs} {ys = ys} a b) v = all_joined StmtTidy first others (statement_tidy a (left xs ys v)) (statements_tidy b (right xs ys v))

  branch_tidy : {w : Word} {h : ℕ} {b : Branch Stmt} {ts : List Token} → BranchOf w h b ts → Sound ts → BranchTidy b
  branch_tidy (BranchOf.branch {xs = xs} {ys = ys} t is a d) v = (spelled a (left xs ys v.1), block_tidy d (right xs ys v.1))

  elifs_tidy : {h : ℕ} {bs : List (Branch Stmt)} {ts : List Token} → Elifs h bs ts → Sound ts → AllByRecursion BranchTidy bs
  elifs_tidy Elifs.no_elif v = tt
  elifs_tidy (Elifs.elif {xs = xs} {ys = ys} a b) v = (branch_tidy a (left xs ys v), elifs_tidy b (right xs ys v))

  worded_tidy : {w : Word} {h : ℕ} {body : List Stmt} {ts : List Token} → Worded w h body ts → Sound ts → BlockTidy body
  worded_tidy Worded.unwritten v = tt
  worded_tidy (Worded.written t is a) v = block_tidy a v.1

  handlers_tidy : {h : ℕ} {cs : List (Handler Stmt)} {ts : List Token} → Handlers h cs ts → Sound ts → AllByRecursion HandlerTidy cs
  handlers_tidy Handlers.no_handler v = tt
  handlers_tidy (Handlers.last_handler t is a) v = ((tt, block_tidy a v.1), tt)
  handlers_tidy (Handlers.handler {xs = xs} {ys = ys} {zs = zs} t is a d e) v =
      let w = left (xs ++ ys) zs v.1 in
      ((caught_tidy a (left xs ys w), block_tidy d (right xs ys w)), handlers_tidy e (right (xs ++ ys) zs v.1))
