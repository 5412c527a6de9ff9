-- Simple statements that are spelled are read.
use Rattle.std.proofs.Common.{◌≡◌, ℕ, zero, suc, ◌+◌, ◌-◌, max, ◌<◌, ◌≤◌, Bool, true, false, List, [], ◌∷◌, ◌++◌, length, Option, Some, refl, ap, ◌∙◌, sym, subst, arith, append_assoc, length-append}
use Rattle.py_ast.specs.declared.token.Token.{Token}
use Rattle.py_ast.specs.declared.spelled.Word.TheVariants as w
use Rattle.py_ast.specs.declared.spelled.Sign.TheVariants as s
use Rattle.py_ast.specs.declared.expr.Binary.{Binary}
use Rattle.py_ast.specs.declared.expr.Expr.{Expr}
use Rattle.py_ast.specs.declared.stmt.Stmt.{Stmt}
use Rattle.py_ast.specs.declared.stmt.Stmt.TheVariants as st
use Rattle.py_ast.specs.declared.stmt.Declared.{Declared}
use Rattle.py_grammar.specs.declared.found.Found.{Found}
use Rattle.py_grammar.specs.declared.role.Mark.{Mark}
use Rattle.py_grammar.specs.declared.role.Mark.TheVariants as m
use Rattle.py_grammar.specs.declared.role.Row.TheVariants as row
use Rattle.py_grammar.specs.Levels.{expression, mark, mark_of, line, can_begin, follows_expression, follows_exprs}
use Rattle.py_grammar.specs.Grammar.{Exprs, Expression, Yields, IsSign, IsWord}
use Rattle.py_grammar.specs.Parse.{found, only, with_part, is_sign, is_word, begins_item, read_row}
use Rattle.py_grammar.proofs.Steps.{sees_it, sees_by, sees_word_by, after_it, after_none}
use Rattle.py_grammar.proofs.Steps as step
use Rattle.py_grammar.proofs.Lists.{joined, joined-more}
use Rattle.py_statements.specs.Words.{augmented}
use Rattle.py_statements.specs.Grammar.{Right, Chain, MaybeExprs, MaybeExpression, Message, Names, Simple, Line}
use Rattle.py_statements.specs.Parse.{made, right, maybe_exprs, maybe_expression, message, names_from, names, assigned_from, assigned, behind_row, augmented_with, row_statement, yield_statement, return_statement, raise_statement, del_statement, assert_statement, simple_by, simple, line_from}
use Rattle.py_grammar.proofs.Productions.{expression_read, exprs_read, yield_read}
use Rattle.py_statements.proofs.Steps.{made_enough}
use Rattle.py_statements.proofs.Starts.{Ends, at_semicolon, at_newline, exprs_begin, expression_begin, yield_begin, chain_begin, expression_item, some_rest, line_begin, no_yield, front_line, simple_no_newline}
use Rattle.py_statements.proofs.Rows.{row_reads, row_one}

pub right_read : {h : ℕ} {x : Expr} {ys : List Token} → Right h x ys → (d : ℕ) → h ≤ d → (rest : List Token) → Ends (mark rest) → right d (ys ++ rest) ≡ Some (found x h, rest)
unfolding right
right_read (Right.exprs a) d low rest e = rw (sees_word_by w.Yield _ false (no_yield _ (exprs_begin a rest))) (exprs_read _ _ _ a d low rest e.exprs)
right_read (Right.yielded a) d low rest e = rw (sees_word_by w.Yield _ true (ap (is_word w.Yield) (yield_begin a rest))) (yield_read _ _ _ a d low rest e.yielded)

maybe_exprs_read : {h : ℕ} {x : Option Expr} {xs : List Token} → MaybeExprs h x xs → (d : ℕ) → h ≤ d → (rest : List Token) → Ends (mark rest) → maybe_exprs d (xs ++ rest) ≡ Some (found x h, rest)
unfolding maybe_exprs
maybe_exprs_read MaybeExprs.absent d low rest e = rw e.no_item refl
maybe_exprs_read (MaybeExprs.present a) d low rest e = rw (exprs_begin a rest, exprs_read _ _ _ a d low rest e.exprs) refl

pub maybe_expression_read : {h : ℕ} {x : Option Expr} {xs : List Token} → MaybeExpression h x xs → (d : ℕ) → h ≤ d → (rest : List Token) → follows_expression (mark rest) ≡ true → can_begin expression (mark rest) ≡ false → maybe_expression d (xs ++ rest) ≡ Some (found x h, rest)
unfolding maybe_expression
maybe_expression_read MaybeExpression.absent d low rest e f = rw f refl
maybe_expression_read (MaybeExpression.present a) d low rest e f = rw (expression_begin a rest, expression_read _ _ _ a d low rest e) refl

message_read : {h : ℕ} {x : Option Expr} {xs : List Token} → Message h x xs → (d : ℕ) → h ≤ d → (rest : List Token) → Ends (mark rest) → message d (xs ++ rest) ≡ Some (found x h, rest)
unfolding message
message_read Message.absent d low rest e = rw (sees_by s.Comma rest false e.no_comma) refl
message_read (Message.present {xs = xs} t is a) d low rest e = rw (sees_it t s.Comma (xs ++ rest) is, expression_read _ _ _ a d low rest e.expression) refl

-- what follows an expression before a message
message_follows : {h : ℕ} {x : Option Expr} {xs : List Token} → Message h x xs → (rest : List Token) → Ends (mark rest) → follows_expression (mark (xs ++ rest)) ≡ true
message_follows Message.absent rest e = e.expression
message_follows (Message.present t is a) rest e = ap (λ q. follows_expression (mark_of q)) is

names_read : {ns : List Declared} {xs : List Token} → Names ns xs → (n : ℕ) → length xs ≤ n → (acc : List Declared) (rest : List Token) → is_sign s.Comma (mark rest) ≡ false → names_from n acc (xs ++ rest) ≡ Some (acc ++ ns, rest)
unfolding names_from
names_read (Names.last t is) zero short acc rest end = absurd (omega arith)
names_read (Names.last t is) (suc n) short acc rest end = rw (step.names t rest is, sees_by s.Comma rest false end, after_none s.Comma rest (sees_by s.Comma rest false end)) refl
names_read (Names.more t u is comma others) zero short acc rest end = absurd (omega arith)
names_read (Names.more {name = name} {rest = ns} {xs = xs} t u is comma others) (suc n) short acc rest end =
    rw (step.names t (u ∷ (xs ++ rest)) is, sees_it u s.Comma (xs ++ rest) comma, after_it u s.Comma (xs ++ rest) comma)
    (names_read others n (omega arith) (acc ++ record { line = t.line; name = name } ∷ []) rest end ∙ ap (λ l. Some (l, rest)) (append_assoc acc (record { line = t.line; name = name } ∷ []) ns))

all_names : {ns : List Declared} {xs : List Token} → Names ns xs → (rest : List Token) → Ends (mark rest) → names (xs ++ rest) ≡ Some (ns, rest)
unfolding names
all_names {ns} {xs} a rest e = names_read a (length (xs ++ rest)) (omega (arith, length-append xs rest)) [] rest e.no_comma

-- ---- assignments

assigned_ends : {h : ℕ} {x : Expr} {ys : List Token} → Right h x ys → (at d n : ℕ) → 0 < n → (acc : Found (List Expr)) → h ≤ d - 1 → (rest : List Token) → Ends (mark rest)
    → assigned_from at d n acc (ys ++ rest) ≡ made d (max acc.height h) (st.Assign at acc.tree x) rest
unfolding assigned_from
assigned_ends a at d zero some acc low rest e = absurd (omega arith)
assigned_ends (Right.exprs a) at d (suc n) some acc low rest e =
    rw (sees_word_by w.Yield _ false (no_yield _ (exprs_begin a rest)), exprs_read _ _ _ a (d - 1) low rest e.exprs, sees_by s.Equal rest false e.no_equal) refl
assigned_ends (Right.yielded a) at d (suc n) some acc low rest e =
    rw (sees_word_by w.Yield _ true (ap (is_word w.Yield) (yield_begin a rest)), yield_read _ _ _ a (d - 1) low rest e.yielded) refl

-- a further target
assigned_more : (at d n g : ℕ) (x : Expr) (xs : List Token) (acc : Found (List Expr)) (t : Token) (i : List Token) → Exprs g x xs → IsSign t s.Equal → g ≤ d - 1
    → assigned_from at d (suc n) acc (xs ++ (t ∷ i)) ≡ assigned_from at d n (with_part acc (found x g)) i
unfolding assigned_from
assigned_more at d n g x xs acc t i a is low =
    rw (sees_word_by w.Yield _ false (no_yield _ (exprs_begin a (t ∷ i))), exprs_read _ _ _ a (d - 1) low (t ∷ i) (ap (λ q. follows_exprs (mark_of q)) is), sees_it t s.Equal i is) refl

made_same : (d g h at : ℕ) (ts us : List Expr) (x : Expr) (i : List Token) → g ≡ h → ts ≡ us → made d g (st.Assign at ts x) i ≡ made d h (st.Assign at us x) i
made_same d g h at ts us x i same also = ap (λ n. made d n (st.Assign at ts x) i) same ∙ ap (λ l. made d h (st.Assign at l x) i) also

assigned_read : {g : ℕ} {ts : List Expr} {xs : List Token} → Chain g ts xs → (at d n : ℕ) → length xs < n → (acc : Found (List Expr)) → g ≤ d - 1
    → (h : ℕ) (x : Expr) (ys : List Token) → Right h x ys → h ≤ d - 1 → (rest : List Token) → Ends (mark rest)
    → assigned_from at d n acc (xs ++ (ys ++ rest)) ≡ made d (max (max acc.height g) h) (st.Assign at (acc.tree ++ ts) x) rest
assigned_read c at d zero short acc low h x ys a fits rest e = absurd (omega arith)
assigned_read (Chain.last {h = g} {x = y} {xs = xs} t b is) at d (suc n) short acc low h x ys a fits rest e =
    rw (append_assoc xs (t ∷ []) (ys ++ rest)) (assigned_more at d n g y xs acc t (ys ++ rest) b is low ∙ assigned_ends a at d n (omega (arith, length-append xs (t ∷ []))) (with_part acc (found y g)) fits rest e)
assigned_read (Chain.more {g = g} {h = j} {x = y} {rest = us} {xs = xs} {ys = zs} t b is c) at d (suc n) short acc low h x ys a fits rest e =
    rw (append_assoc xs (t ∷ zs) (ys ++ rest)) (assigned_more at d n g y xs acc t (zs ++ (ys ++ rest)) b is (omega arith)
    ∙ assigned_read {g = j} c at d n (omega (arith, length-append xs (t ∷ zs))) (with_part acc (found y g)) (omega arith) h x ys a fits rest e
    ∙ made_same d _ _ at _ _ x rest (omega arith) (append_assoc acc.tree (y ∷ []) us))

-- ---- statements that begin with an expression

as_row : (d : ℕ) (q : Mark) (i : List Token) → begins_item row.Expressions q ≡ true → simple_by d q i ≡ row_statement d i
as_row d (m.Keyword w.Pass) i h = cc
as_row d (m.Keyword w.Break) i h = cc
as_row d (m.Keyword w.Continue) i h = cc
as_row d (m.Keyword w.Return) i h = cc
as_row d (m.Keyword w.Raise) i h = cc
as_row d (m.Keyword w.Del) i h = cc
as_row d (m.Keyword w.Assert) i h = cc
as_row d (m.Keyword w.Global) i h = cc
as_row d (m.Keyword w.Nonlocal) i h = cc
as_row d (m.Keyword w.Yield) i h = cc
as_row d _ i h = refl

simple_row : (d : ℕ) (i : List Token) → begins_item row.Expressions (mark i) ≡ true → simple d i ≡ row_statement d i
unfolding simple
simple_row d i h = as_row d (mark i) i h

row_goes : (d : ℕ) (i : List Token) (f : Found Expr) (b : Bool) (j : List Token) → read_row (d - 1) i ≡ Some ((f, b), j) → row_statement d i ≡ behind_row (line i) d f b j
unfolding row_statement
row_goes d i f b j h = rw h refl

abbrev pub SimpleIsRead : ℕ → Stmt → List Token → Type 0
SimpleIsRead h x xs = (d : ℕ) → h ≤ d → (rest : List Token) → Ends (mark rest) → simple d (xs ++ rest) ≡ Some (found x h, rest)

on_exprs : (h : ℕ) (x : Expr) (xs : List Token) → Exprs h x xs → SimpleIsRead (h + 1) (st.Expr (line xs) x) xs
unfolding behind_row
on_exprs h x xs a d low rest e =
    let r = row_reads (d - 1) (xs ++ rest) (found x h) rest (exprs_read h x xs a (d - 1) (omega arith) rest e.exprs) in
    simple_row d (xs ++ rest) (exprs_begin a rest) ∙ row_goes d (xs ++ rest) (found x h) r.0 rest r.1
    ∙ rw (sees_by s.Equal rest false e.no_equal, e.plain, front_line (begins_item row.Expressions) xs refl (exprs_begin a) rest) (made_enough d h _ rest low)

on_yields : (h : ℕ) (x : Expr) (xs : List Token) → Yields h x xs → SimpleIsRead (h + 1) (st.Expr (line xs) x) xs
unfolding simple yield_statement
on_yields h x xs a d low rest e =
    rw (yield_begin a rest, yield_read h x xs a (d - 1) (omega arith) rest e.yielded, front_line (is_word w.Yield) xs refl (λ i. ap (is_word w.Yield) (yield_begin a i)) rest) (made_enough d h _ rest low)

behind_equal : (at d : ℕ) (f : Found Expr) (b : Bool) (t : Token) (i : List Token) → IsSign t s.Equal → behind_row at d f b (t ∷ i) ≡ assigned at d f i
unfolding behind_row
behind_equal at d f b t i is = rw (sees_it t s.Equal i is) refl

row_equal : (d g : ℕ) (x : Expr) (xs : List Token) (t : Token) (i : List Token) → Exprs g x xs → IsSign t s.Equal → g ≤ d - 1 → simple d (xs ++ (t ∷ i)) ≡ assigned (line (xs ++ (t ∷ i))) d (found x g) i
row_equal d g x xs t i a is low =
    let r = row_reads (d - 1) (xs ++ (t ∷ i)) (found x g) (t ∷ i) (exprs_read g x xs a (d - 1) low (t ∷ i) (ap (λ q. follows_exprs (mark_of q)) is)) in
    simple_row d (xs ++ (t ∷ i)) (exprs_begin a (t ∷ i)) ∙ row_goes d (xs ++ (t ∷ i)) (found x g) r.0 (t ∷ i) r.1 ∙ behind_equal _ d (found x g) r.0 t i is

on_assign : (g h : ℕ) (ts : List Expr) (x : Expr) (xs ys : List Token) → Chain g ts xs → Right h x ys → SimpleIsRead (max g h + 1) (st.Assign (line xs) ts x) (xs ++ ys)
unfolding assigned
on_assign g h ts x _ ys (Chain.last {x = y} {xs = xs} t b is) a d low rest e =
    let first = front_line (begins_item row.Expressions) (xs ++ t ∷ []) refl (chain_begin (Chain.last t b is)) (ys ++ rest) in
    let cut = append_assoc xs (t ∷ []) (ys ++ rest) in
    rw (append_assoc (xs ++ t ∷ []) ys rest, sym first, cut) (row_equal d g y xs t (ys ++ rest) b is (omega arith)
    ∙ assigned_ends a _ d (length (ys ++ rest)) (omega (arith, length-append ys rest, some_rest rest e)) (only (found y g)) (omega arith) rest e ∙ made_enough d (max g h) _ rest low)
on_assign _ h _ x _ ys (Chain.more {g = g} {h = j} {x = y} {rest = us} {xs = xs} {ys = zs} t b is c) a d low rest e =
    let first = front_line (begins_item row.Expressions) (xs ++ t ∷ zs) refl (chain_begin (Chain.more t b is c)) (ys ++ rest) in
    let cut = append_assoc xs (t ∷ zs) (ys ++ rest) in
    rw (append_assoc (xs ++ t ∷ zs) ys rest, sym first, cut) (row_equal d g y xs t (zs ++ (ys ++ rest)) b is (omega arith)
    ∙ assigned_read c _ d (length (zs ++ (ys ++ rest))) (omega (arith, length-append zs (ys ++ rest), length-append ys rest, some_rest rest e)) (only (found y g)) (omega arith) h x ys a (omega arith) rest e
    ∙ made_enough d (max (max g j) h) _ rest low)

behind_augment : (at d : ℕ) (f : Found Expr) (o : Binary) (t : Token) (i : List Token) → augmented (mark_of t.kind) ≡ Some o → is_sign s.Equal (mark_of t.kind) ≡ false → behind_row at d f true (t ∷ i) ≡ augmented_with at d f true (Some o) (t ∷ i)
unfolding behind_row
behind_augment at d f o t i is other = rw (sees_by s.Equal (t ∷ i) false other, is) refl

-- what an augmented sign is not
augment_no_equal : (o : Binary) (q : Mark) → augmented q ≡ Some o → is_sign s.Equal q ≡ false
augment_no_equal o (m.Sign s.Equal) h = cc
augment_no_equal o _ h = refl

augment_no_comma : (o : Binary) (q : Mark) → augmented q ≡ Some o → is_sign s.Comma q ≡ false
augment_no_comma o (m.Sign s.Comma) h = cc
augment_no_comma o _ h = refl

augment_follows : (o : Binary) (q : Mark) → augmented q ≡ Some o → follows_expression q ≡ true
augment_follows o (m.Sign s.PlusEqual) h = refl
augment_follows o (m.Sign s.MinusEqual) h = refl
augment_follows o (m.Sign s.StarEqual) h = refl
augment_follows o (m.Sign s.DoubleSlashEqual) h = refl
augment_follows o (m.Sign s.PercentEqual) h = refl
augment_follows o (m.Sign s.DoubleStarEqual) h = refl
augment_follows o (m.Sign s.LeftShiftEqual) h = refl
augment_follows o (m.Sign s.RightShiftEqual) h = refl
augment_follows o (m.Sign s.AmpersandEqual) h = refl
augment_follows o (m.Sign s.BarEqual) h = refl
augment_follows o (m.Sign s.CaretEqual) h = refl
augment_follows o _ h = cc

on_augment : (o : Binary) (g h : ℕ) (x y : Expr) (xs ys : List Token) (t : Token) → Expression g x xs → augmented (mark_of t.kind) ≡ Some o → Right h y ys → SimpleIsRead (max g h + 1) (st.Augment (line xs) x o y) (xs ++ t ∷ ys)
on_augment o g h x y xs ys t a is b d low rest e =
    let first = front_line (begins_item row.Expressions) xs refl (λ i. expression_item _ (expression_begin a i)) (t ∷ (ys ++ rest)) in
    let front = expression_read g x xs a (d - 1) (omega arith) (t ∷ (ys ++ rest)) (augment_follows o _ is) in
    let alone = row_one (d - 1) (xs ++ (t ∷ (ys ++ rest))) (found x g) (t ∷ (ys ++ rest)) (expression_begin a (t ∷ (ys ++ rest))) front (augment_no_comma o _ is) in
    let value = right_read b (d - 1) (omega arith) rest e in
    rw (append_assoc xs (t ∷ ys) rest, sym first) (simple_row d _ (expression_item _ (expression_begin a (t ∷ (ys ++ rest)))) ∙ row_goes d _ (found x g) true (t ∷ (ys ++ rest)) alone
    ∙ behind_augment _ d (found x g) o t (ys ++ rest) is (augment_no_equal o _ is) ∙ rw value (made_enough d (max g h) _ rest low))

-- ---- statements that begin with a word

on_pass : (t : Token) → IsWord t w.Pass → SimpleIsRead 1 (st.Pass t.line) (t ∷ [])
unfolding simple
on_pass t is d low rest e = rw is (made_enough d 0 _ rest low)

on_break : (t : Token) → IsWord t w.Break → SimpleIsRead 1 (st.Break t.line) (t ∷ [])
unfolding simple
on_break t is d low rest e = rw is (made_enough d 0 _ rest low)

on_continue : (t : Token) → IsWord t w.Continue → SimpleIsRead 1 (st.Continue t.line) (t ∷ [])
unfolding simple
on_continue t is d low rest e = rw is (made_enough d 0 _ rest low)

on_return : (h : ℕ) (x : Option Expr) (xs : List Token) (t : Token) → IsWord t w.Return → MaybeExprs h x xs → SimpleIsRead (h + 1) (st.Return t.line x) (t ∷ xs)
unfolding simple return_statement
on_return h x xs t is a d low rest e = rw (is, maybe_exprs_read a (d - 1) (omega arith) rest e) (made_enough d h _ rest low)

on_raise : (h : ℕ) (x : Option Expr) (xs : List Token) (t : Token) → IsWord t w.Raise → MaybeExpression h x xs → SimpleIsRead (h + 1) (st.Raise t.line x) (t ∷ xs)
unfolding simple raise_statement
on_raise h x xs t is a d low rest e = rw (is, maybe_expression_read a (d - 1) (omega arith) rest e.expression e.no_expression) (made_enough d h _ rest low)

on_del : (h : ℕ) (x : Expr) (xs : List Token) (t : Token) → IsWord t w.Del → Exprs h x xs → SimpleIsRead (h + 1) (st.Del t.line x) (t ∷ xs)
unfolding simple del_statement
on_del h x xs t is a d low rest e = rw (is, exprs_read h x xs a (d - 1) (omega arith) rest e.exprs) (made_enough d h _ rest low)

on_assert : (g h : ℕ) (x : Expr) (y : Option Expr) (xs ys : List Token) (t : Token) → IsWord t w.Assert → Expression g x xs → Message h y ys → SimpleIsRead (max g h + 1) (st.Assert t.line x y) (t ∷ xs ++ ys)
unfolding simple assert_statement
on_assert g h x y xs ys t is a b d low rest e =
    rw (is, append_assoc xs ys rest, expression_read g x xs a (d - 1) (omega arith) (ys ++ rest) (message_follows b rest e), message_read b (d - 1) (omega arith) rest e) (made_enough d (max g h) _ rest low)

on_global : (ns : List Declared) (xs : List Token) (t : Token) → IsWord t w.Global → Names ns xs → SimpleIsRead 1 (st.Global t.line ns) (t ∷ xs)
unfolding simple
on_global ns xs t is a d low rest e = rw (is, all_names a rest e) (made_enough d 0 _ rest low)

on_nonlocal : (ns : List Declared) (xs : List Token) (t : Token) → IsWord t w.Nonlocal → Names ns xs → SimpleIsRead 1 (st.Nonlocal t.line ns) (t ∷ xs)
unfolding simple
on_nonlocal ns xs t is a d low rest e = rw (is, all_names a rest e) (made_enough d 0 _ rest low)

pub simple_read : {h : ℕ} {x : Stmt} {xs : List Token} → Simple h x xs → SimpleIsRead h x xs
simple_read (Simple.expr (Right.exprs a)) = on_exprs _ _ _ a
simple_read (Simple.expr (Right.yielded a)) = on_yields _ _ _ a
simple_read (Simple.assign c a) = on_assign _ _ _ _ _ _ c a
simple_read (Simple.augment t a is b) = on_augment _ _ _ _ _ _ _ t a is b
simple_read (Simple.pass t is) = on_pass t is
simple_read (Simple.break t is) = on_break t is
simple_read (Simple.continue t is) = on_continue t is
simple_read (Simple.return t is a) = on_return _ _ _ t is a
simple_read (Simple.raise t is a) = on_raise _ _ _ t is a
simple_read (Simple.del t is a) = on_del _ _ _ t is a
simple_read (Simple.assert t is a b) = on_assert _ _ _ _ _ _ t is a b
simple_read (Simple.global t is a) = on_global _ _ t is a
simple_read (Simple.nonlocal t is a) = on_nonlocal _ _ t is a

-- ---- lines

pub line_read : {h : ℕ} {xs : List Stmt} {ts : List Token} → Line h xs ts → (d n : ℕ) → length ts ≤ n → h ≤ d → (acc : Found (List Stmt)) (rest : List Token) → line_from d n acc (ts ++ rest) ≡ Some (joined acc xs h, rest)
unfolding line_from
line_read (Line.last {xs = xs} t a is) d zero short low acc rest = absurd (omega (arith, length-append xs (t ∷ [])))
line_read (Line.last {xs = xs} t a is) d (suc n) short low acc rest =
    let other = sees_by s.Semicolon (t ∷ rest) false (ap (λ q. is_sign s.Semicolon (mark_of q)) is) in
    rw (append_assoc xs (t ∷ []) rest, simple_read a d low (t ∷ rest) (subst Ends (sym (ap mark_of is)) at_newline), other, after_none s.Semicolon (t ∷ rest) other, is) refl
line_read (Line.closed {xs = xs} t u a is end) d zero short low acc rest = absurd (omega (arith, length-append xs (t ∷ u ∷ [])))
line_read (Line.closed {xs = xs} t u a is end) d (suc n) short low acc rest =
    rw (append_assoc xs (t ∷ u ∷ []) rest, simple_read a d low (t ∷ u ∷ rest) (subst Ends (sym (ap mark_of is)) at_semicolon), sees_it t s.Semicolon (u ∷ rest) is, after_it t s.Semicolon (u ∷ rest) is, end) refl
line_read (Line.more {xs = xs} {ys = ys} t a is c) d zero short low acc rest = absurd (omega (arith, length-append xs (t ∷ ys)))
line_read (Line.more {g = g} {h = h} {x = x} {rest = us} {xs = xs} {ys = ys} t a is c) d (suc n) short low acc rest =
    rw (append_assoc xs (t ∷ ys) rest, simple_read a d (omega arith) (t ∷ (ys ++ rest)) (subst Ends (sym (ap mark_of is)) at_semicolon), sees_it t s.Semicolon (ys ++ rest) is, after_it t s.Semicolon (ys ++ rest) is, simple_no_newline _ (line_begin c rest))
    (line_read c d n (omega (arith, length-append xs (t ∷ ys))) (omega arith) (with_part acc (found x g)) rest ∙ ap (λ l. Some (l, rest)) (joined-more acc x g h us))
