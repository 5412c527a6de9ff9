-- The first tokens of statements, and what may stand behind them.
use Rattle.std.proofs.Common.{◌≡◌, ℕ, ◌<◌, arith, length, Bool, true, false, List, [], ◌∷◌, ◌++◌, None, refl, ap, ◌∙◌, append_assoc}
use Rattle.py_ast.specs.declared.token.Token.{Token}
use Rattle.py_ast.specs.declared.spelled.Word.{Word}
use Rattle.py_ast.specs.declared.spelled.Word.TheVariants as w
use Rattle.py_ast.specs.declared.spelled.Sign.TheVariants as s
use Rattle.py_ast.specs.declared.expr.Expr.{Expr}
use Rattle.py_ast.specs.declared.stmt.Stmt.{Stmt}
use Rattle.py_ast.specs.declared.stmt.Branch.{Branch}
use Rattle.py_grammar.specs.declared.role.Mark.{Mark}
use Rattle.py_grammar.specs.declared.role.Mark.TheVariants as m
use Rattle.py_grammar.specs.declared.role.Row.TheVariants as row
use Rattle.py_grammar.specs.Levels.{expression, mark, mark_of, line, can_begin, follows_expression, follows_exprs, follows_yield}
use Rattle.py_grammar.specs.Grammar.{RowOf, Expression, Exprs, Yields}
use Rattle.py_grammar.specs.Parse.{is_sign, is_word, begins_item}
use Rattle.py_grammar.proofs.Starts.{begins_with, mark_front, begins_part}
use Rattle.py_statements.specs.Words.{augmented, begins_compound, is_newline, closes}
use Rattle.py_statements.specs.Grammar.{Right, Chain, Simple, Line, Compound, Statement, BranchOf, Decorators}

-- ---- first tokens

pub expression_begin : {h : ℕ} {x : Expr} {xs : List Token} → Expression h x xs → (i : List Token) → can_begin expression (mark (xs ++ i)) ≡ true
expression_begin a i = mark_front _ _ i (begins_with a)

pub exprs_begin : {h : ℕ} {x : Expr} {xs : List Token} → Exprs h x xs → (i : List Token) → begins_item row.Expressions (mark (xs ++ i)) ≡ true
exprs_begin (RowOf.single a) i = begins_part a i
exprs_begin (RowOf.tuple {t = t} {xs = xs} {ys = ys} a c) i = rw (append_assoc xs (t ∷ ys) i) (begins_part a (t ∷ (ys ++ i)))

pub yield_begin : {h : ℕ} {x : Expr} {xs : List Token} → Yields h x xs → (i : List Token) → mark (xs ++ i) ≡ m.Keyword w.Yield
yield_begin (Yields.bare t is) i = ap mark_of is
yield_begin (Yields.value t is a) i = ap mark_of is
yield_begin (Yields.delegate t u is from a) i = ap mark_of is

pub chain_begin : {h : ℕ} {ts : List Expr} {xs : List Token} → Chain h ts xs → (i : List Token) → begins_item row.Expressions (mark (xs ++ i)) ≡ true
chain_begin (Chain.last {xs = xs} t a is) i = rw (append_assoc xs (t ∷ []) i) (exprs_begin a (t ∷ i))
chain_begin (Chain.more {xs = xs} {ys = ys} t a is c) i = rw (append_assoc xs (t ∷ ys) i) (exprs_begin a (t ∷ (ys ++ i)))

-- what begins a simple statement
abbrev pub begins_simple : Mark → Bool
begins_simple (m.Keyword w.Pass) = true
begins_simple (m.Keyword w.Break) = true
begins_simple (m.Keyword w.Continue) = true
begins_simple (m.Keyword w.Return) = true
begins_simple (m.Keyword w.Raise) = true
begins_simple (m.Keyword w.Del) = true
begins_simple (m.Keyword w.Assert) = true
begins_simple (m.Keyword w.Global) = true
begins_simple (m.Keyword w.Nonlocal) = true
begins_simple (m.Keyword w.Yield) = true
begins_simple q = begins_item row.Expressions q

item_simple : (q : Mark) → begins_item row.Expressions q ≡ true → begins_simple q ≡ true
item_simple (m.Keyword w.Pass) h = refl
item_simple (m.Keyword w.Break) h = refl
item_simple (m.Keyword w.Continue) h = refl
item_simple (m.Keyword w.Return) h = refl
item_simple (m.Keyword w.Raise) h = refl
item_simple (m.Keyword w.Del) h = refl
item_simple (m.Keyword w.Assert) h = refl
item_simple (m.Keyword w.Global) h = refl
item_simple (m.Keyword w.Nonlocal) h = refl
item_simple (m.Keyword w.Yield) h = refl
item_simple _ h = h

pub expression_item : (q : Mark) → can_begin expression q ≡ true → begins_item row.Expressions q ≡ true
expression_item (m.Sign s.Star) h = refl
expression_item _ h = h

right_begin : {h : ℕ} {x : Expr} {xs : List Token} → Right h x xs → (i : List Token) → begins_simple (mark (xs ++ i)) ≡ true
right_begin (Right.exprs a) i = item_simple _ (exprs_begin a i)
right_begin (Right.yielded a) i = ap begins_simple (yield_begin a i)

pub simple_begin : {h : ℕ} {x : Stmt} {xs : List Token} → Simple h x xs → (i : List Token) → begins_simple (mark (xs ++ i)) ≡ true
simple_begin (Simple.expr a) i = right_begin a i
simple_begin (Simple.assign {xs = xs} {ys = ys} c a) i = rw (append_assoc xs ys i) (item_simple _ (chain_begin c (ys ++ i)))
simple_begin (Simple.augment {xs = xs} {ys = ys} t a is b) i = rw (append_assoc xs (t ∷ ys) i) (item_simple _ (expression_item _ (expression_begin a (t ∷ (ys ++ i)))))
simple_begin (Simple.pass t is) i = ap (λ q. begins_simple (mark_of q)) is
simple_begin (Simple.break t is) i = ap (λ q. begins_simple (mark_of q)) is
simple_begin (Simple.continue t is) i = ap (λ q. begins_simple (mark_of q)) is
simple_begin (Simple.return t is a) i = ap (λ q. begins_simple (mark_of q)) is
simple_begin (Simple.raise t is a) i = ap (λ q. begins_simple (mark_of q)) is
simple_begin (Simple.del t is a) i = ap (λ q. begins_simple (mark_of q)) is
simple_begin (Simple.assert t is a b) i = ap (λ q. begins_simple (mark_of q)) is
simple_begin (Simple.global t is a) i = ap (λ q. begins_simple (mark_of q)) is
simple_begin (Simple.nonlocal t is a) i = ap (λ q. begins_simple (mark_of q)) is

pub line_begin : {h : ℕ} {xs : List Stmt} {ts : List Token} → Line h xs ts → (i : List Token) → begins_simple (mark (ts ++ i)) ≡ true
line_begin (Line.last {xs = xs} t a is) i = rw (append_assoc xs (t ∷ []) i) (simple_begin a (t ∷ i))
line_begin (Line.closed {xs = xs} t u a is end) i = rw (append_assoc xs (t ∷ u ∷ []) i) (simple_begin a (t ∷ u ∷ i))
line_begin (Line.more {xs = xs} {ys = ys} t a is c) i = rw (append_assoc xs (t ∷ ys) i) (simple_begin a (t ∷ (ys ++ i)))

branch_begin : {v : Word} {h : ℕ} {b : Branch Stmt} {xs : List Token} (P : Mark → Bool) → P (m.Keyword v) ≡ true → BranchOf v h b xs → (i : List Token) → P (mark (xs ++ i)) ≡ true
branch_begin P e (BranchOf.branch t is a b) i = ap (λ q. P (mark_of q)) is ∙ e

decorators_begin : {h : ℕ} {ds : List Expr} {xs : List Token} → Decorators h ds xs → (i : List Token) → begins_compound (mark i) ≡ true → begins_compound (mark (xs ++ i)) ≡ true
decorators_begin Decorators.none i h = h
decorators_begin (Decorators.more t u is a end c) i h = ap (λ q. begins_compound (mark_of q)) is

pub compound_begin : {h : ℕ} {x : Stmt} {xs : List Token} → Compound h x xs → (i : List Token) → begins_compound (mark (xs ++ i)) ≡ true
compound_begin (Compound.conditional {xs = xs} {ys = ys} {zs = zs} b bs c) i = rw (append_assoc (xs ++ ys) zs i, append_assoc xs ys (zs ++ i)) (branch_begin begins_compound refl b (ys ++ (zs ++ i)))
compound_begin (Compound.while {xs = xs} {ys = ys} b c) i = rw (append_assoc xs ys i) (branch_begin begins_compound refl b (ys ++ i))
compound_begin (Compound.for t u is a in_ b c d) i = ap (λ q. begins_compound (mark_of q)) is
compound_begin (Compound.catches t is a b c d) i = ap (λ q. begins_compound (mark_of q)) is
compound_begin (Compound.finishes t u is a last b) i = ap (λ q. begins_compound (mark_of q)) is
compound_begin (Compound.with t is a b) i = ap (λ q. begins_compound (mark_of q)) is
compound_begin (Compound.def {xs = xs} {ys = ys} {zs = zs} t u v z ds is n o ps c b) i = rw (append_assoc (xs ++ t ∷ u ∷ v ∷ ys) (z ∷ zs) i, append_assoc xs (t ∷ u ∷ v ∷ ys) (z ∷ (zs ++ i))) (decorators_begin ds _ (ap (λ q. begins_compound (mark_of q)) is))
compound_begin (Compound.class {xs = xs} {ys = ys} {zs = zs} t u ds is n a b) i = rw (append_assoc (xs ++ t ∷ u ∷ ys) zs i, append_assoc xs (t ∷ u ∷ ys) (zs ++ i)) (decorators_begin ds _ (ap (λ q. begins_compound (mark_of q)) is))

-- what begins a statement
abbrev pub begins_statement : Mark → Bool
begins_statement (m.Keyword w.If) = true
begins_statement (m.Keyword w.While) = true
begins_statement (m.Keyword w.For) = true
begins_statement (m.Keyword w.Try) = true
begins_statement (m.Keyword w.With) = true
begins_statement (m.Keyword w.Def) = true
begins_statement (m.Keyword w.Class) = true
begins_statement (m.Sign s.At) = true
begins_statement q = begins_simple q

simple_statement : (q : Mark) → begins_simple q ≡ true → begins_statement q ≡ true
simple_statement (m.Keyword w.If) h = refl
simple_statement (m.Keyword w.While) h = refl
simple_statement (m.Keyword w.For) h = refl
simple_statement (m.Keyword w.Try) h = refl
simple_statement (m.Keyword w.With) h = refl
simple_statement (m.Keyword w.Def) h = refl
simple_statement (m.Keyword w.Class) h = refl
simple_statement (m.Sign s.At) h = refl
simple_statement _ h = h

compound_statement : (q : Mark) → begins_compound q ≡ true → begins_statement q ≡ true
compound_statement (m.Keyword w.If) h = refl
compound_statement (m.Keyword w.While) h = refl
compound_statement (m.Keyword w.For) h = refl
compound_statement (m.Keyword w.Try) h = refl
compound_statement (m.Keyword w.With) h = refl
compound_statement (m.Keyword w.Def) h = refl
compound_statement (m.Keyword w.Class) h = refl
compound_statement (m.Sign s.At) h = refl
compound_statement _ h = cc

pub statement_begin : {h : ℕ} {xs : List Stmt} {ts : List Token} → Statement h xs ts → (i : List Token) → begins_statement (mark (ts ++ i)) ≡ true
statement_begin (Statement.simple a) i = simple_statement _ (line_begin a i)
statement_begin (Statement.compound a) i = compound_statement _ (compound_begin a i)

-- ---- what follows

-- a word that goes on with a compound statement
abbrev pub goes_on : Mark → Bool
goes_on (m.Keyword w.Elif) = true
goes_on (m.Keyword w.Else) = true
goes_on (m.Keyword w.Except) = true
goes_on (m.Keyword w.Finally) = true
goes_on _ = false

pub no_elif : (q : Mark) → goes_on q ≡ false → is_word w.Elif q ≡ false
no_elif (m.Keyword w.Elif) h = cc
no_elif _ h = refl

pub no_else : (q : Mark) → goes_on q ≡ false → is_word w.Else q ≡ false
no_else (m.Keyword w.Else) h = cc
no_else _ h = refl

pub no_except : (q : Mark) → goes_on q ≡ false → is_word w.Except q ≡ false
no_except (m.Keyword w.Except) h = cc
no_except _ h = refl

pub no_finally : (q : Mark) → goes_on q ≡ false → is_word w.Finally q ≡ false
no_finally (m.Keyword w.Finally) h = cc
no_finally _ h = refl

pub statement_ends : (q : Mark) → begins_statement q ≡ true → goes_on q ≡ false
statement_ends (m.Keyword w.Elif) h = cc
statement_ends (m.Keyword w.Else) h = cc
statement_ends (m.Keyword w.Except) h = cc
statement_ends (m.Keyword w.Finally) h = cc
statement_ends _ h = refl

pub statement_open : (inner : Bool) (q : Mark) → begins_statement q ≡ true → closes inner q ≡ false
statement_open true m.Dedent h = cc
statement_open true _ h = refl
statement_open false m.End h = cc
statement_open false _ h = refl

pub closing_ends : (inner : Bool) (q : Mark) → closes inner q ≡ true → goes_on q ≡ false
closing_ends true m.Dedent h = refl
closing_ends true _ h = cc
closing_ends false m.End h = refl
closing_ends false _ h = cc

pub simple_no_compound : (q : Mark) → begins_simple q ≡ true → begins_compound q ≡ false
simple_no_compound (m.Keyword w.If) h = cc
simple_no_compound (m.Keyword w.While) h = cc
simple_no_compound (m.Keyword w.For) h = cc
simple_no_compound (m.Keyword w.Try) h = cc
simple_no_compound (m.Keyword w.With) h = cc
simple_no_compound (m.Keyword w.Def) h = cc
simple_no_compound (m.Keyword w.Class) h = cc
simple_no_compound (m.Sign s.At) h = cc
simple_no_compound _ h = refl

pub simple_no_newline : (q : Mark) → begins_simple q ≡ true → is_newline q ≡ false
simple_no_newline m.Newline h = cc
simple_no_newline _ h = refl

pub no_yield : (q : Mark) → begins_item row.Expressions q ≡ true → is_word w.Yield q ≡ false
no_yield (m.Keyword w.Yield) h = cc
no_yield _ h = refl

-- what may stand behind a simple statement
pub record Ends (q : Mark) : Type 0 where
  pub expression : follows_expression q ≡ true
  pub exprs : follows_exprs q ≡ true
  pub yielded : follows_yield q ≡ true
  pub no_item : begins_item row.Expressions q ≡ false
  pub no_expression : can_begin 1 q ≡ false
  pub no_comma : is_sign s.Comma q ≡ false
  pub no_equal : is_sign s.Equal q ≡ false
  pub plain : augmented q ≡ None

pub at_semicolon : Ends (m.Sign s.Semicolon)
at_semicolon = record { expression = refl; exprs = refl; yielded = refl; no_item = refl; no_expression = refl; no_comma = refl; no_equal = refl; plain = refl }

pub at_newline : Ends m.Newline
at_newline = record { expression = refl; exprs = refl; yielded = refl; no_item = refl; no_expression = refl; no_comma = refl; no_equal = refl; plain = refl }

-- ---- the line of the first token

-- what follows has no part in the first line
pub front_line : (P : Mark → Bool) (xs : List Token) → P m.End ≡ false → ((i : List Token) → P (mark (xs ++ i)) ≡ true) → (i : List Token) → line (xs ++ i) ≡ line xs
front_line P [] h f i = let e = f [] in cc
front_line P (t ∷ xs) h f i = refl

-- something stands behind a simple statement
pub some_rest : (rest : List Token) → Ends (mark rest) → 0 < length rest
some_rest [] e = let other = e.exprs in cc
some_rest (t ∷ rest) e = omega arith
