-- Compound statements and blocks that are spelled are read.
use Rattle.std.proofs.Common.{◌≡◌, ℕ, zero, suc, ◌+◌, ◌-◌, max, ◌<◌, ◌≤◌, Bool, true, false, List, [], ◌∷◌, ◌++◌, length, take, Option, Some, None, refl, ap, ◌∙◌, arith, ◌⊎◌, inl, inr, append_assoc, length-append}
use Rattle.py_ast.specs.declared.token.Token.{Token}
use Rattle.py_ast.specs.declared.token.TokenKind.TheVariants as k
use Rattle.py_ast.specs.declared.spelled.Word.{Word}
use Rattle.py_ast.specs.declared.spelled.Word.TheVariants as w
use Rattle.py_ast.specs.declared.spelled.Sign.TheVariants as s
use Rattle.py_ast.specs.declared.expr.Expr.{Expr}
use Rattle.py_ast.specs.declared.expr.Param.{Param}
use Rattle.py_ast.specs.declared.stmt.Stmt.{Stmt}
use Rattle.py_ast.specs.declared.stmt.Stmt.TheVariants as st
use Rattle.py_ast.specs.declared.stmt.Branch.{Branch}
use Rattle.py_ast.specs.declared.stmt.Handler.{Handler}
use Rattle.py_ast.specs.declared.stmt.Manager.{Manager}
use Rattle.py_grammar.specs.declared.found.Found.{Found}
use Rattle.py_grammar.specs.declared.role.Mark.{Mark}
use Rattle.py_grammar.specs.declared.role.Mark.TheVariants as m
use Rattle.py_grammar.specs.Levels.{expression, mark, mark_of, line, can_begin, follows_expression, follows_exprs, follows_targets, follows_target, follows_params}
use Rattle.py_grammar.specs.Grammar.{Exprs, Expression, Targets, Params, IsSign, IsWord}
use Rattle.py_grammar.specs.Parse.{found, only, with_part, is_sign, is_word, name, read_level}
use Rattle.py_grammar.proofs.Steps.{sees_it, sees_word_it, sees_by, sees_word_by, after_it, after_none, expects, expects_word}
use Rattle.py_grammar.proofs.Steps as step
use Rattle.py_grammar.proofs.Lists.{joined, joined-nothing, joined-more}
use Rattle.py_statements.specs.Words.{is_newline, is_indent, is_dedent, closes, begins_compound}
use Rattle.py_statements.specs.Grammar.{ItemOf, Managers, Decorators, Base, Caught, Line, Block, Worded}
use Rattle.py_statements.specs.Parse.{one_line, as_target, manager, managers_from, managers, decorators_from, decorators, base_class, as_name, branch, elifs_from, worded, if_statement, while_statement, for_blocks, for_statement, bare_handler, class_handler, handlers_from, finishes, catches, try_statement, with_statement, def_statement, class_statement, decorated, compound, statement, statements_from, statements, indented, block, parse}
use Rattle.py_grammar.proofs.Productions.{expression_read, exprs_read, targets_read, target_read, params_read}
use Rattle.py_statements.proofs.Steps.{made_enough, passes, joined-append, joined-empty}
use Rattle.py_statements.proofs.Starts.{goes_on, no_else, no_finally, line_begin, simple_no_compound, simple_no_newline, expression_begin}
use Rattle.py_statements.proofs.SimpleRead.{line_read, maybe_expression_read}

-- ---- items of `with`

pub front_all : (xs i : List Token) → take (length (xs ++ i) - length i) (xs ++ i) ≡ xs
front_all xs i = let e : length (xs ++ i) - length i ≡ length xs = omega (arith, length-append xs i) in ap (λ n. take n (xs ++ i)) e ∙ front_of xs i
  where
    front_of : (xs i : List Token) → take (length xs) (xs ++ i) ≡ xs
    front_of [] i = take_none i
      where
        take_none : (i : List Token) → take 0 i ≡ []
        take_none [] = refl
        take_none (t ∷ i) = refl
    front_of (t ∷ xs) i = ap (λ l. t ∷ l) (front_of xs i)

-- what stands behind an item of `with`
abbrev pub ends_item : Mark → Bool
ends_item (m.Sign s.Comma) = true
ends_item (m.Sign s.Colon) = true
ends_item _ = false

ends_target : (q : Mark) → ends_item q ≡ true → follows_target q ≡ true
ends_target (m.Sign s.Comma) h = refl
ends_target (m.Sign s.Colon) h = refl
ends_target _ h = cc

ends_expression : (q : Mark) → ends_item q ≡ true → follows_expression q ≡ true
ends_expression (m.Sign s.Comma) h = refl
ends_expression (m.Sign s.Colon) h = refl
ends_expression _ h = cc

ends_no_as : (q : Mark) → ends_item q ≡ true → is_word w.As q ≡ false
ends_no_as (m.Keyword w.As) h = cc
ends_no_as _ h = refl

manager_read : {h : ℕ} {x : Manager} {xs : List Token} → ItemOf h x xs → (d : ℕ) → h ≤ d → (rest : List Token) → ends_item (mark rest) ≡ true → manager d (xs ++ rest) ≡ Some (found x h, rest)
unfolding manager as_target
manager_read (ItemOf.bare {h = h} {x = x} {xs = xs} a plain) d low rest e =
    rw (expression_read _ _ _ a d low rest (ends_expression _ e), front_all xs rest, plain, sees_word_by w.As rest false (ends_no_as _ e)) refl
manager_read (ItemOf.named {xs = xs} {ys = ys} t a plain is b) d low rest e =
    rw (append_assoc xs (t ∷ ys) rest, expression_read _ _ _ a d (omega arith) (t ∷ (ys ++ rest)) (ap (λ q. follows_expression (mark_of q)) is), front_all xs (t ∷ (ys ++ rest)), plain, sees_word_it t w.As (ys ++ rest) is, target_read _ _ _ b d (omega arith) rest (ends_target _ e)) refl

some_front : (xs : List Token) → ((i : List Token) → can_begin expression (mark (xs ++ i)) ≡ true) → 0 < length xs
some_front [] f = let e = f [] in cc
some_front (t ∷ xs) f = omega arith

item_some : {h : ℕ} {x : Manager} {xs : List Token} → ItemOf h x xs → 0 < length xs
item_some (ItemOf.bare {xs = xs} a plain) = some_front xs (expression_begin a)
item_some (ItemOf.named {xs = xs} {ys = ys} t a plain is b) = omega (arith, length-append xs (t ∷ ys))

managers_read : {h : ℕ} {xs : List Manager} {ts : List Token} → Managers h xs ts → (d n : ℕ) → length ts ≤ n → h ≤ d → (acc : Found (List Manager)) (rest : List Token) → mark rest ≡ m.Sign s.Colon
    → managers_from d n acc (ts ++ rest) ≡ Some (joined acc xs h, rest)
unfolding managers_from
managers_read (Managers.last a) d zero short low acc rest e = absurd (omega (arith, item_some a))
managers_read (Managers.last a) d (suc n) short low acc rest e =
    let other = sees_by s.Comma rest false (ap (is_sign s.Comma) e) in
    rw (manager_read a d low rest (ap ends_item e), other, after_none s.Comma rest other) refl
managers_read (Managers.more {xs = xs} {ys = ys} t a is c) d zero short low acc rest e = absurd (omega (arith, length-append xs (t ∷ ys)))
managers_read (Managers.more {g = g} {h = h} {x = x} {rest = us} {xs = xs} {ys = ys} t a is c) d (suc n) short low acc rest e =
    rw (append_assoc xs (t ∷ ys) rest, manager_read a d (omega arith) (t ∷ (ys ++ rest)) (ap (λ q. ends_item (mark_of q)) is), sees_it t s.Comma (ys ++ rest) is, after_it t s.Comma (ys ++ rest) is)
    (managers_read c d n (omega (arith, length-append xs (t ∷ ys))) (omega arith) (with_part acc (found x g)) rest e ∙ ap (λ l. Some (l, rest)) (joined-more acc x g h us))

all_managers : {h : ℕ} {xs : List Manager} {ts : List Token} → Managers h xs ts → (d : ℕ) → h ≤ d → (rest : List Token) → mark rest ≡ m.Sign s.Colon → managers d (ts ++ rest) ≡ Some (found xs h, rest)
unfolding managers
all_managers {h} {xs} {ts} a d low rest e = managers_read a d (length (ts ++ rest)) (omega (arith, length-append ts rest)) low (found [] 0) rest e ∙ ap (λ l. Some (l, rest)) (joined-empty xs h)

-- ---- decorators, a base class, what is caught

decorators_read : {h : ℕ} {xs : List Expr} {ts : List Token} → Decorators h xs ts → (d n : ℕ) → length ts < n → h ≤ d → (acc : Found (List Expr)) (rest : List Token) → is_sign s.At (mark rest) ≡ false
    → decorators_from d n acc (ts ++ rest) ≡ Some (joined acc xs h, rest)
unfolding decorators_from
decorators_read Decorators.none d zero short low acc rest e = absurd (omega arith)
decorators_read Decorators.none d (suc n) short low acc rest e = rw (sees_by s.At rest false e) (ap (λ l. Some (l, rest)) (joined-nothing acc))
decorators_read (Decorators.more t u is a end c) d zero short low acc rest e = absurd (omega arith)
decorators_read (Decorators.more {g = g} {h = h} {x = x} {rest = us} {xs = xs} {ys = ys} t u is a end c) d (suc n) short low acc rest e =
    rw (append_assoc xs (u ∷ ys) rest, sees_it t s.At (xs ++ (u ∷ (ys ++ rest))) is, expression_read _ _ _ a d (omega arith) (u ∷ (ys ++ rest)) (ap (λ q. follows_expression (mark_of q)) end), passes is_newline u (ys ++ rest) (ap (λ q. is_newline (mark_of q)) end))
    (decorators_read c d n (omega (arith, length-append (t ∷ xs) (u ∷ ys))) (omega arith) (with_part acc (found x g)) rest e ∙ ap (λ l. Some (l, rest)) (joined-more acc x g h us))

all_decorators : {h : ℕ} {xs : List Expr} {ts : List Token} → Decorators h xs ts → (d : ℕ) → h ≤ d → (rest : List Token) → is_sign s.At (mark rest) ≡ false → decorators d (ts ++ rest) ≡ Some (found xs h, rest)
unfolding decorators
all_decorators {h} {xs} {ts} a d low rest e = decorators_read a d (length (ts ++ rest) + 1) (omega (arith, length-append ts rest)) low (found [] 0) rest e ∙ ap (λ l. Some (l, rest)) (joined-empty xs h)

base_read : {h : ℕ} {x : Option Expr} {xs : List Token} → Base h x xs → (d : ℕ) → h ≤ d → (rest : List Token) → mark rest ≡ m.Sign s.Colon → base_class d (xs ++ rest) ≡ Some (found x h, rest)
unfolding base_class
base_read Base.absent d low rest e = rw (sees_by s.LeftParen rest false (ap (is_sign s.LeftParen) e)) refl
base_read (Base.present {xs = xs} t u is a end) d low rest e =
    rw (append_assoc xs (u ∷ []) rest, sees_it t s.LeftParen (xs ++ (u ∷ rest)) is, maybe_expression_read a d low (u ∷ rest) (ap (λ q. follows_expression (mark_of q)) end) (ap (λ q. can_begin expression (mark_of q)) end), expects u s.RightParen rest end) refl

record CaughtRead (d h : ℕ) (x : Expr) (name : Option (List ℕ)) (start rest : List Token) : Type 0 where
  pub middle : List Token
  pub class : read_level expression d start ≡ Some (found x h, middle)
  pub text : as_name middle ≡ Some (name, rest)
  pub unmarked : is_sign s.Colon (mark start) ≡ false

not_colon : (q : Mark) → can_begin expression q ≡ true → is_sign s.Colon q ≡ false
not_colon (m.Sign s.Colon) h = cc
not_colon _ h = refl

caught_read : {h : ℕ} {x : Expr} {name : Option (List ℕ)} {xs : List Token} → Caught h x name xs → (d : ℕ) → h ≤ d → (rest : List Token) → mark rest ≡ m.Sign s.Colon → CaughtRead d h x name (xs ++ rest) rest
unfolding as_name
caught_read (Caught.unnamed a) d low rest e = record {
  middle = rest;
  class = expression_read _ _ _ a d low rest (ap follows_expression e);
  text = rw (sees_word_by w.As rest false (ap (is_word w.As) e)) refl;
  unmarked = not_colon _ (expression_begin a rest);
}
caught_read (Caught.named {xs = xs} t u a is n) d low rest e = record {
  middle = t ∷ u ∷ rest;
  class = rw (append_assoc xs (t ∷ u ∷ []) rest) (expression_read _ _ _ a d low (t ∷ u ∷ rest) (ap (λ q. follows_expression (mark_of q)) is));
  text = rw (sees_word_it t w.As (u ∷ rest) is, step.names u rest n) refl;
  unmarked = rw (append_assoc xs (t ∷ u ∷ []) rest) (not_colon _ (expression_begin a (t ∷ u ∷ rest)));
}

-- ---- blocks and what they stand in

abbrev pub BlockIsRead : ℕ → List Stmt → List Token → Type 0
BlockIsRead h body ts = (n : ℕ) → length ts ≤ n → (d : ℕ) → h ≤ d → (rest : List Token) → parse n d (ts ++ rest) ≡ Some (found body h, rest)

-- a block begins with a colon
abbrev pub Colon : List Token → Type 0
Colon ts = (i : List Token) → mark (ts ++ i) ≡ m.Sign s.Colon

pub block_colon : {h : ℕ} {body : List Stmt} {ts : List Token} → Block h body ts → Colon ts
block_colon (Block.one_line t is a) i = ap mark_of is
block_colon (Block.indented t n j d is newline indent a b dedent) i = ap mark_of is

block_some : {h : ℕ} {body : List Stmt} {ts : List Token} → Block h body ts → 0 < length ts
block_some (Block.one_line t is a) = omega arith
block_some (Block.indented {xs = xs} {ys = ys} t n j d is newline indent a b dedent) = omega (arith, length-append ((t ∷ n ∷ j ∷ xs) ++ ys) (d ∷ []))

abbrev pub BranchIsRead : ℕ → Branch Stmt → List Token → Type 0
BranchIsRead h b ts = (n : ℕ) → length ts ≤ n → (d : ℕ) → h ≤ d → (rest : List Token) → branch (parse n) d (ts ++ rest) ≡ Some (found b h, rest)

pub on_branch : (g h : ℕ) (x : Expr) (body : List Stmt) (xs ys : List Token) (t : Token) → Expression g x xs → Colon ys → BlockIsRead h body ys → BranchIsRead (max g h) (record { line = t.line; test = x; body = body }) (t ∷ xs ++ ys)
unfolding branch
on_branch g h x body xs ys t a colon b n fits d low rest =
    rw (append_assoc xs ys rest, expression_read g x xs a d (omega arith) (ys ++ rest) (ap follows_expression (colon rest)), b n (omega (arith, length-append (t ∷ xs) ys)) d (omega arith) rest) refl

abbrev pub ElifsAreRead : ℕ → List (Branch Stmt) → List Token → Type 0
ElifsAreRead h bs ts = (n : ℕ) → length ts ≤ n → (d : ℕ) → h ≤ d → (turns : ℕ) → length ts < turns → (acc : Found (List (Branch Stmt))) (rest : List Token) → is_word w.Elif (mark rest) ≡ false
    → elifs_from (parse n) d turns acc (ts ++ rest) ≡ Some (joined acc bs h, rest)

pub on_no_elif : ElifsAreRead 0 [] []
unfolding elifs_from
on_no_elif n fits d low zero short acc rest e = absurd (omega arith)
on_no_elif n fits d low (suc turns) short acc rest e = rw (sees_word_by w.Elif rest false e) (ap (λ l. Some (l, rest)) (joined-nothing acc))

pub on_elif : (g h : ℕ) (b : Branch Stmt) (bs : List (Branch Stmt)) (xs ys : List Token) → ((i : List Token) → is_word w.Elif (mark (xs ++ i)) ≡ true) → 0 < length xs → BranchIsRead g b xs → ElifsAreRead h bs ys → ElifsAreRead (max g h) (b ∷ bs) (xs ++ ys)
unfolding elifs_from
on_elif g h b bs xs ys begin some a c n fits d low zero short acc rest e = absurd (omega arith)
on_elif g h b bs xs ys begin some a c n fits d low (suc turns) short acc rest e =
    let size = length-append xs ys in
    rw (append_assoc xs ys rest, sees_word_by w.Elif (xs ++ (ys ++ rest)) true (begin (ys ++ rest)), a n (omega arith) d (omega arith) (ys ++ rest))
    (c n (omega arith) d (omega arith) turns (omega arith) (with_part acc (found b g)) rest e ∙ ap (λ l. Some (l, rest)) (joined-more acc b g h bs))

abbrev pub WordedIsRead : Word → ℕ → List Stmt → List Token → Type 0
WordedIsRead word h body ts = (n : ℕ) → length ts ≤ n → (d : ℕ) → h ≤ d → (rest : List Token) → is_word word (mark rest) ≡ false → worded (parse n) word d (ts ++ rest) ≡ Some (found body h, rest)

pub on_unwritten : (word : Word) → WordedIsRead word 0 [] []
unfolding worded
on_unwritten word n fits d low rest e = rw (sees_word_by word rest false e) refl

pub on_written : (word : Word) (h : ℕ) (body : List Stmt) (xs : List Token) (t : Token) → IsWord t word → BlockIsRead h body xs → WordedIsRead word h body (t ∷ xs)
unfolding worded
on_written word h body xs t is a n fits d low rest e = rw (sees_word_it t word (xs ++ rest) is) (a n (omega arith) d low rest)

-- what comes where a block behind a word may be written
pub worded_mark : {word : Word} {h : ℕ} {body : List Stmt} {ts : List Token} (P : Mark → Bool) (b : Bool) → Worded word h body ts → P (m.Keyword word) ≡ b → (rest : List Token) → P (mark rest) ≡ b → P (mark (ts ++ rest)) ≡ b
worded_mark P b Worded.unwritten e rest h = h
worded_mark P b (Worded.written t is a) e rest h = ap (λ q. P (mark_of q)) is ∙ e

-- ---- compound statements

abbrev pub CompoundIsRead : ℕ → Stmt → List Token → Type 0
CompoundIsRead h x ts = (n : ℕ) → length ts ≤ n → (d : ℕ) → h ≤ d → (rest : List Token) → goes_on (mark rest) ≡ false → compound (parse n) d (ts ++ rest) ≡ Some (found x h, rest)

pub on_if : (f g h : ℕ) (b : Branch Stmt) (bs : List (Branch Stmt)) (other : List Stmt) (xs ys zs : List Token) → ((i : List Token) → mark (xs ++ i) ≡ m.Keyword w.If) → ((i : List Token) → line (xs ++ i) ≡ b.line)
    → BranchIsRead f b xs → ElifsAreRead g bs ys → ((rest : List Token) → goes_on (mark rest) ≡ false → is_word w.Elif (mark (zs ++ rest)) ≡ false) → WordedIsRead w.Else h other zs
    → CompoundIsRead (max f (max g h) + 1) (st.If b.line (b ∷ bs) other) (xs ++ ys ++ zs)
unfolding compound if_statement
on_if f g h b bs other xs ys zs begin first a c over e n fits d low rest ends =
    let size = length-append xs ys in
    let size2 = length-append (xs ++ ys) zs in
    let size3 = length-append ys (zs ++ rest) in
    let all = c n (omega arith) (d - 1) (omega arith) (length (ys ++ (zs ++ rest)) + 1) (omega arith) (only (found b f)) (zs ++ rest) (over rest ends) in
    let same : max (max f g) h + 1 ≡ max f (max g h) + 1 = omega arith in
    rw (append_assoc (xs ++ ys) zs rest, append_assoc xs ys (zs ++ rest), begin (ys ++ (zs ++ rest)), a n (omega arith) (d - 1) (omega arith) (ys ++ (zs ++ rest)), all, e n (omega arith) (d - 1) (omega arith) rest (no_else _ ends), first (ys ++ (zs ++ rest)))
    (made_enough d (max (max f g) h) _ rest (omega arith) ∙ ap (λ j. Some (found (st.If b.line (b ∷ bs) other) j, rest)) same)

pub on_while : (g h : ℕ) (b : Branch Stmt) (other : List Stmt) (xs ys : List Token) → ((i : List Token) → mark (xs ++ i) ≡ m.Keyword w.While) → BranchIsRead g b xs → WordedIsRead w.Else h other ys
    → CompoundIsRead (max g h + 1) (st.While b.line b.test b.body other) (xs ++ ys)
unfolding compound while_statement
on_while g h b other xs ys begin a e n fits d low rest ends =
    let size = length-append xs ys in
    rw (append_assoc xs ys rest, begin (ys ++ rest), a n (omega arith) (d - 1) (omega arith) (ys ++ rest), e n (omega arith) (d - 1) (omega arith) rest (no_else _ ends)) (made_enough d (max g h) _ rest low)

pub on_for : (e f g h : ℕ) (x y : Expr) (body other : List Stmt) (xs ys zs vs : List Token) (t u : Token) → IsWord t w.For → Targets e x xs → IsWord u w.In → Exprs f y ys → Colon zs → BlockIsRead g body zs → WordedIsRead w.Else h other vs
    → CompoundIsRead (max (max e f) (max g h) + 1) (st.For t.line x y body other) (t ∷ xs ++ u ∷ ys ++ zs ++ vs)
unfolding compound for_statement for_blocks
on_for e f g h x y body other xs ys zs vs t u is a in_ b colon c o n fits d low rest ends =
    let size = length-append (t ∷ xs) (u ∷ ys) in
    let size2 = length-append ((t ∷ xs) ++ (u ∷ ys)) zs in
    let size3 = length-append (((t ∷ xs) ++ (u ∷ ys)) ++ zs) vs in
    let cut : (((xs ++ (u ∷ ys)) ++ zs) ++ vs) ++ rest ≡ xs ++ (u ∷ (ys ++ (zs ++ (vs ++ rest)))) = simp append_assoc in
    rw (
      is,
      cut,
      targets_read e x xs a (d - 1) (omega arith) (u ∷ (ys ++ (zs ++ (vs ++ rest)))) (ap (λ q. follows_targets (mark_of q)) in_),
      expects_word u w.In (ys ++ (zs ++ (vs ++ rest))) in_,
      exprs_read f y ys b (d - 1) (omega arith) (zs ++ (vs ++ rest)) (ap follows_exprs (colon (vs ++ rest))),
      c n (omega arith) (d - 1) (omega arith) (vs ++ rest),
      o n (omega arith) (d - 1) (omega arith) rest (no_else _ ends),
    )
    (made_enough d (max (max e f) (max g h)) _ rest low)

pub on_with : (g h : ℕ) (items : List Manager) (body : List Stmt) (xs ys : List Token) (t : Token) → IsWord t w.With → Managers g items xs → Colon ys → BlockIsRead h body ys
    → CompoundIsRead (max g h + 1) (st.With t.line items body) (t ∷ xs ++ ys)
unfolding compound with_statement
on_with g h items body xs ys t is a colon b n fits d low rest ends =
    let size = length-append (t ∷ xs) ys in
    rw (is, append_assoc xs ys rest, all_managers a (d - 1) (omega arith) (ys ++ rest) (colon rest), b n (omega arith) (d - 1) (omega arith) rest) (made_enough d (max g h) _ rest low)

abbrev pub HandlersAreRead : ℕ → List (Handler Stmt) → List Token → Type 0
HandlersAreRead h cs ts = (n : ℕ) → length ts ≤ n → (d : ℕ) → h ≤ d → (turns : ℕ) → length ts < turns → (acc : Found (List (Handler Stmt))) (rest : List Token) → is_word w.Except (mark rest) ≡ false
    → handlers_from (parse n) d turns acc (ts ++ rest) ≡ Some (joined acc cs h, rest)

pub on_no_handler : HandlersAreRead 0 [] []
unfolding handlers_from
on_no_handler n fits d low zero short acc rest e = absurd (omega arith)
on_no_handler n fits d low (suc turns) short acc rest e = rw (sees_word_by w.Except rest false e) (ap (λ l. Some (l, rest)) (joined-nothing acc))

pub on_last_handler : (h : ℕ) (body : List Stmt) (xs : List Token) (t : Token) → IsWord t w.Except → Colon xs → BlockIsRead h body xs → HandlersAreRead h (record { line = t.line; class = None; name = None; body = body } ∷ []) (t ∷ xs)
unfolding handlers_from bare_handler
on_last_handler h body xs t is colon a n fits d low zero short acc rest e = absurd (omega arith)
on_last_handler h body xs t is colon a n fits d low (suc turns) short acc rest e =
    rw (sees_word_it t w.Except (xs ++ rest) is, sees_by s.Colon (xs ++ rest) true (ap (is_sign s.Colon) (colon rest)), a n (omega arith) d low rest) refl

pub on_handler : (f g h : ℕ) (x : Expr) (name : Option (List ℕ)) (body : List Stmt) (cs : List (Handler Stmt)) (xs ys zs : List Token) (t : Token) → IsWord t w.Except → Caught f x name xs → Colon ys → BlockIsRead g body ys
    → HandlersAreRead h cs zs → HandlersAreRead (max (max f g) h) (record { line = t.line; class = Some x; name = name; body = body } ∷ cs) (t ∷ xs ++ ys ++ zs)
unfolding handlers_from class_handler
on_handler f g h x name body cs xs ys zs t is a colon b c n fits d low zero short acc rest e = absurd (omega arith)
on_handler f g h x name body cs xs ys zs t is a colon b c n fits d low (suc turns) short acc rest e =
    let size = length-append (t ∷ xs) ys in
    let size2 = length-append ((t ∷ xs) ++ ys) zs in
    let cut : ((xs ++ ys) ++ zs) ++ rest ≡ xs ++ (ys ++ (zs ++ rest)) = simp append_assoc in
    let caught = caught_read a d (omega arith) (ys ++ (zs ++ rest)) (colon (zs ++ rest)) in
    let part : Handler Stmt = record { line = t.line; class = Some x; name = name; body = body } in
    rw (sees_word_it t w.Except (((xs ++ ys) ++ zs) ++ rest) is, cut, sees_by s.Colon (xs ++ (ys ++ (zs ++ rest))) false caught.unmarked, caught.class, caught.text, b n (omega arith) d (omega arith) (zs ++ rest))
    (c n (omega arith) d (omega arith) turns (omega arith) (with_part acc (found part (max f g))) rest e ∙ ap (λ l. Some (l, rest)) (joined-more acc part (max f g) h cs))

pub on_catches : (e f g h : ℕ) (body other last : List Stmt) (c : Handler Stmt) (cs : List (Handler Stmt)) (xs ys zs vs : List Token) (t : Token) → IsWord t w.Try → BlockIsRead e body xs
    → ((i : List Token) → is_word w.Except (mark (ys ++ i)) ≡ true) → HandlersAreRead f (c ∷ cs) ys
    → ((rest : List Token) → goes_on (mark rest) ≡ false → is_word w.Except (mark (zs ++ (vs ++ rest))) ≡ false) → WordedIsRead w.Else g other zs
    → ((rest : List Token) → goes_on (mark rest) ≡ false → is_word w.Else (mark (vs ++ rest)) ≡ false) → WordedIsRead w.Finally h last vs
    → CompoundIsRead (max (max e f) (max g h) + 1) (st.Try t.line body (c ∷ cs) other last) (t ∷ xs ++ ys ++ zs ++ vs)
unfolding compound try_statement catches
on_catches e f g h body other last c cs xs ys zs vs t is a begin b over o over2 l n fits d low rest ends =
    let size = length-append (t ∷ xs) ys in
    let size2 = length-append ((t ∷ xs) ++ ys) zs in
    let size3 = length-append (((t ∷ xs) ++ ys) ++ zs) vs in
    let size4 = length-append ys (zs ++ (vs ++ rest)) in
    let cut : (((xs ++ ys) ++ zs) ++ vs) ++ rest ≡ xs ++ (ys ++ (zs ++ (vs ++ rest))) = simp append_assoc in
    let all = b n (omega arith) (d - 1) (omega arith) (length (ys ++ (zs ++ (vs ++ rest))) + 1) (omega arith) (found [] 0) (zs ++ (vs ++ rest)) (over rest ends) ∙ ap (λ l. Some (l, zs ++ (vs ++ rest))) (joined-empty (c ∷ cs) f) in
    rw (
      is,
      cut,
      a n (omega arith) (d - 1) (omega arith) (ys ++ (zs ++ (vs ++ rest))),
      sees_word_by w.Except (ys ++ (zs ++ (vs ++ rest))) true (begin (zs ++ (vs ++ rest))),
      all,
      o n (omega arith) (d - 1) (omega arith) (vs ++ rest) (over2 rest ends),
      l n (omega arith) (d - 1) (omega arith) rest (no_finally _ ends),
    )
    (made_enough d (max (max e f) (max g h)) _ rest low)

pub on_finishes : (g h : ℕ) (body last : List Stmt) (xs ys : List Token) (t u : Token) → IsWord t w.Try → BlockIsRead g body xs → IsWord u w.Finally → BlockIsRead h last ys
    → CompoundIsRead (max g h + 1) (st.Try t.line body [] [] last) (t ∷ xs ++ u ∷ ys)
unfolding compound try_statement finishes
on_finishes g h body last xs ys t u is a fin b n fits d low rest ends =
    let size = length-append (t ∷ xs) (u ∷ ys) in
    rw (
      is,
      append_assoc xs (u ∷ ys) rest,
      a n (omega arith) (d - 1) (omega arith) (u ∷ (ys ++ rest)),
      sees_word_by w.Except (u ∷ (ys ++ rest)) false (ap (λ q. is_word w.Except (mark_of q)) fin),
      expects_word u w.Finally (ys ++ rest) fin,
      b n (omega arith) (d - 1) (omega arith) rest,
    ) (made_enough d (max g h) _ rest low)

as_decorated : (d : ℕ) (n : ℕ) (xs i : List Token) {h : ℕ} {ds : List Expr} → Decorators h ds xs → (begins : (mark i ≡ m.Keyword w.Def) ⊎ (mark i ≡ m.Keyword w.Class)) → compound (parse n) d (xs ++ i) ≡ decorated (parse n) d (xs ++ i)
unfolding compound
as_decorated d n xs i Decorators.none (inl e) = rw e refl
as_decorated d n xs i Decorators.none (inr e) = rw e refl
as_decorated d n xs i (Decorators.more t u is a end c) e = rw is refl

pub on_def : (f g h : ℕ) (ds : List Expr) (name : List ℕ) (ps : List (Param Expr)) (body : List Stmt) (xs ys zs : List Token) (t u v z : Token) → Decorators f ds xs → IsWord t w.Def → u.kind ≡ k.Name name
    → IsSign v s.LeftParen → Params g ps ys → IsSign z s.RightParen → BlockIsRead h body zs
    → CompoundIsRead (max f (max g h) + 1) (st.Def t.line ds name ps body) (xs ++ t ∷ u ∷ v ∷ ys ++ z ∷ zs)
unfolding decorated def_statement
on_def f g h ds name ps body xs ys zs t u v z a is n_ open_ b close c n fits d low rest ends =
    let size = length-append xs (t ∷ u ∷ v ∷ ys) in
    let size2 = length-append (xs ++ (t ∷ u ∷ v ∷ ys)) (z ∷ zs) in
    let cut : ((xs ++ (t ∷ u ∷ v ∷ ys)) ++ (z ∷ zs)) ++ rest ≡ xs ++ (t ∷ u ∷ v ∷ (ys ++ (z ∷ (zs ++ rest)))) = simp append_assoc in
    rw cut (as_decorated d n xs (t ∷ u ∷ v ∷ (ys ++ (z ∷ (zs ++ rest)))) a (inl (ap mark_of is))
    ∙ rw (
      all_decorators a (d - 1) (omega arith) (t ∷ u ∷ v ∷ (ys ++ (z ∷ (zs ++ rest)))) (ap (λ q. is_sign s.At (mark_of q)) is),
      is,
      step.names u (v ∷ (ys ++ (z ∷ (zs ++ rest)))) n_,
      expects v s.LeftParen (ys ++ (z ∷ (zs ++ rest))) open_,
      params_read g ps ys b (d - 1) (omega arith) (z ∷ (zs ++ rest)) (ap (λ q. follows_params (mark_of q)) close),
      expects z s.RightParen (zs ++ rest) close,
      c n (omega arith) (d - 1) (omega arith) rest,
    )
    (made_enough d (max f (max g h)) _ rest low))

not_paren : (xs i : List Token) → Colon xs → mark (xs ++ i) ≡ m.Sign s.Colon
not_paren xs i colon = colon i

pub on_class : (f g h : ℕ) (ds : List Expr) (name : List ℕ) (base : Option Expr) (body : List Stmt) (xs ys zs : List Token) (t u : Token) → Decorators f ds xs → IsWord t w.Class → u.kind ≡ k.Name name
    → Base g base ys → Colon zs → BlockIsRead h body zs → CompoundIsRead (max f (max g h) + 1) (st.Class t.line ds name base body) (xs ++ t ∷ u ∷ ys ++ zs)
unfolding decorated class_statement
on_class f g h ds name base body xs ys zs t u a is n_ b colon c n fits d low rest ends =
    let size = length-append xs (t ∷ u ∷ ys) in
    let size2 = length-append (xs ++ (t ∷ u ∷ ys)) zs in
    let cut : ((xs ++ (t ∷ u ∷ ys)) ++ zs) ++ rest ≡ xs ++ (t ∷ u ∷ (ys ++ (zs ++ rest))) = simp append_assoc in
    rw cut (as_decorated d n xs (t ∷ u ∷ (ys ++ (zs ++ rest))) a (inr (ap mark_of is))
    ∙ rw (
      all_decorators a (d - 1) (omega arith) (t ∷ u ∷ (ys ++ (zs ++ rest))) (ap (λ q. is_sign s.At (mark_of q)) is),
      is,
      step.names u (ys ++ (zs ++ rest)) n_,
      base_read b (d - 1) (omega arith) (zs ++ rest) (colon rest),
      c n (omega arith) (d - 1) (omega arith) rest,
    )
    (made_enough d (max f (max g h)) _ rest low))

-- ---- statements and blocks

abbrev pub StatementIsRead : ℕ → List Stmt → List Token → Type 0
StatementIsRead h body ts = (n : ℕ) → length ts ≤ n → (d : ℕ) → h ≤ d → (acc : Found (List Stmt)) (rest : List Token) → goes_on (mark rest) ≡ false → statement (parse n) d acc (ts ++ rest) ≡ Some (joined acc body h, rest)

pub on_simple : (h : ℕ) (body : List Stmt) (xs : List Token) → Line h body xs → StatementIsRead h body xs
unfolding statement one_line
on_simple h body xs a n fits d low acc rest ends = rw (simple_no_compound _ (line_begin a rest)) (line_read a d (length (xs ++ rest)) (omega (arith, length-append xs rest)) low acc rest)

pub on_compound : (h : ℕ) (x : Stmt) (xs : List Token) → ((i : List Token) → begins_compound (mark (xs ++ i)) ≡ true) → CompoundIsRead h x xs → StatementIsRead h (x ∷ []) xs
unfolding statement
on_compound h x xs begin a n fits d low acc rest ends = rw (begin rest, a n fits d low rest ends) refl

abbrev pub StatementsAreRead : ℕ → List Stmt → List Token → Type 0
StatementsAreRead h body ts = (n : ℕ) → length ts ≤ n → (d : ℕ) → h ≤ d → (inner : Bool) (turns : ℕ) → length ts < turns → (acc : Found (List Stmt)) (rest : List Token) → closes inner (mark rest) ≡ true
    → statements_from (parse n) d inner turns acc (ts ++ rest) ≡ Some (joined acc body h, rest)

pub on_none : StatementsAreRead 0 [] []
unfolding statements_from
on_none n fits d low inner zero short acc rest e = absurd (omega arith)
on_none n fits d low inner (suc turns) short acc rest e = rw e (ap (λ l. Some (l, rest)) (joined-nothing acc))

pub on_more : (g h : ℕ) (first others : List Stmt) (xs ys : List Token) → 0 < length xs → ((inner : Bool) (i : List Token) → closes inner (mark (xs ++ i)) ≡ false)
    → ((inner : Bool) (rest : List Token) → closes inner (mark rest) ≡ true → goes_on (mark (ys ++ rest)) ≡ false) → StatementIsRead g first xs → StatementsAreRead h others ys → StatementsAreRead (max g h) (first ++ others) (xs ++ ys)
unfolding statements_from
on_more g h first others xs ys some opens ends a c n fits d low inner zero short acc rest e = absurd (omega arith)
on_more g h first others xs ys some opens ends a c n fits d low inner (suc turns) short acc rest e =
    let size = length-append xs ys in
    rw (append_assoc xs ys rest, opens inner (ys ++ rest), a n (omega arith) d (omega arith) acc (ys ++ rest) (ends inner rest e))
    (c n (omega arith) d (omega arith) inner turns (omega arith) (joined acc first g) rest e ∙ ap (λ l. Some (l, rest)) (joined-append acc first others g h))

pub on_one_line : (h : ℕ) (body : List Stmt) (xs : List Token) (t : Token) → IsSign t s.Colon → Line h body xs → BlockIsRead h body (t ∷ xs)
unfolding parse block one_line
on_one_line h body xs t is a zero fits d low rest = absurd (omega arith)
on_one_line h body xs t is a (suc n) fits d low rest =
    rw (expects t s.Colon (xs ++ rest) is, simple_no_newline _ (line_begin a rest)) (line_read a d (length (xs ++ rest)) (omega (arith, length-append xs rest)) low (found [] 0) rest ∙ ap (λ l. Some (l, rest)) (joined-empty body h))

pub on_indented : (g h : ℕ) (first others : List Stmt) (xs ys : List Token) (t u i e : Token) → IsSign t s.Colon → u.kind ≡ k.Newline → i.kind ≡ k.Indent
    → ((rest : List Token) → closes true (mark rest) ≡ true → goes_on (mark (ys ++ rest)) ≡ false) → StatementIsRead g first xs → StatementsAreRead h others ys → e.kind ≡ k.Dedent
    → BlockIsRead (max g h) (first ++ others) (t ∷ u ∷ i ∷ xs ++ ys ++ e ∷ [])
unfolding parse block indented statements
on_indented g h first others xs ys t u i e is newline indent ends a c dedent zero fits d low rest = absurd (omega (arith, length-append ((t ∷ u ∷ i ∷ xs) ++ ys) (e ∷ [])))
on_indented g h first others xs ys t u i e is newline indent ends a c dedent (suc n) fits d low rest =
    let size = length-append (t ∷ u ∷ i ∷ xs) ys in
    let size2 = length-append ((t ∷ u ∷ i ∷ xs) ++ ys) (e ∷ []) in
    let size3 = length-append ys (e ∷ rest) in
    let cut : ((xs ++ ys) ++ (e ∷ [])) ++ rest ≡ xs ++ (ys ++ (e ∷ rest)) = simp append_assoc in
    let last = ap (λ q. closes true (mark_of q)) dedent in
    let ended : is_newline (mark_of u.kind) ≡ true = ap (λ q. is_newline (mark_of q)) newline in
    let all = c n (omega arith) d (omega arith) true (length (ys ++ (e ∷ rest)) + 1) (omega arith) (joined (found [] 0) first g) (e ∷ rest) last in
    rw (
      expects t s.Colon (u ∷ i ∷ (((xs ++ ys) ++ (e ∷ [])) ++ rest)) is,
      ended,
      cut,
      passes is_newline u (i ∷ (xs ++ (ys ++ (e ∷ rest)))) ended,
      passes is_indent i (xs ++ (ys ++ (e ∷ rest))) (ap (λ q. is_indent (mark_of q)) indent),
      a n (omega arith) d (omega arith) (found [] 0) (ys ++ (e ∷ rest)) (ends (e ∷ rest) last),
      all,
      passes is_dedent e rest (ap (λ q. is_dedent (mark_of q)) dedent),
    )
    (ap (λ l. Some (l, rest)) (joined-append (found [] 0) first others g h ∙ joined-empty (first ++ others) (max g h)))
