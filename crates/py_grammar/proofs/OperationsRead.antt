-- Operations that the grammar spells are read.
use Rattle.std.proofs.Common.{◌≡◌, ℕ, zero, suc, ◌+◌, ◌-◌, max, ◌<◌, ◌≤◌, Bool, true, false, cond, List, [], ◌∷◌, ◌++◌, length, Option, Some, None, refl, ap, ◌∙◌, sym, subst, arith, append_assoc, length-append, le_refl, le_trans, append-nil}
use Rattle.std.proofs.lemmas.Bool.{le-leb, le-ltb}
use Rattle.py_ast.specs.declared.token.Token.{Token}
use Rattle.py_ast.specs.declared.token.TokenKind.{TokenKind}
use Rattle.py_ast.specs.declared.token.TokenKind.TheVariants as k
use Rattle.py_ast.specs.declared.spelled.Word.TheVariants as w
use Rattle.py_ast.specs.declared.spelled.Sign.TheVariants as s
use Rattle.py_ast.specs.declared.expr.Unary.{Unary}
use Rattle.py_ast.specs.declared.expr.Unary.TheVariants as unary
use Rattle.py_ast.specs.declared.expr.Binary.TheVariants as binary
use Rattle.py_ast.specs.declared.expr.Argument.{Argument}
use Rattle.py_ast.specs.declared.expr.Param.{Param}
use Rattle.py_ast.specs.declared.expr.Link.{Link}
use Rattle.py_ast.specs.declared.expr.Subscript.{Subscript}
use Rattle.py_ast.specs.declared.expr.Expr.{Expr}
use Rattle.py_ast.specs.declared.expr.Expr.TheVariants as e
use Rattle.py_grammar.specs.declared.found.Found.{Found}
use Rattle.py_grammar.specs.declared.role.Mark.{Mark}
use Rattle.py_grammar.specs.declared.role.Mark.TheVariants as m
use Rattle.py_grammar.specs.declared.role.Chain.{Chain}
use Rattle.py_grammar.specs.declared.role.Operator.{Operator}
use Rattle.py_grammar.specs.declared.role.Role.{Role}
use Rattle.py_grammar.specs.declared.role.Role.TheVariants as r
use Rattle.py_grammar.specs.declared.role.Bracket.{Bracket}
use Rattle.py_grammar.specs.declared.role.Bracket.TheVariants as b
use Rattle.py_grammar.specs.Levels.{expression, disjunction, negation, comparison, bitor, signed, power, primary, atom, level_of, role, makes, wants, mark, mark_of, line, sign_of, opening, closing}
use Rattle.py_grammar.specs.Grammar.{Spells, PartOf, Part, Parts, Run, Leaf, Texts, IsSign, IsWord, combined}
use Rattle.py_grammar.specs.Parse.{Parser, and_then, or_else, text_of, texts_from, found, only, part, tail_from, run_from, params, arguments, subscripts, inside, bracketed, conditional, call, index, compare, operated, operation, lambda, negated, under, prefix, prefix_by, climb, level, parse, tall, begins}
use Rattle.py_grammar.proofs.Roles.{makes_wants, behind_power, behind_negation, behind_expression, not_comparison, Behind, Over, running, runs}
use Rattle.py_grammar.proofs.Steps.{Goes, postfix, begin, climb_ends, tall_enough, expects, expects_word, names, numbers}
use Rattle.py_grammar.proofs.Starts.{Begins, Fronted, fronted, some_token, run_mark}
use Rattle.py_grammar.proofs.Lists.{joined}

-- tokens that spell a tree lead the parser of each looser level to it
abbrev pub Complete : ℕ → ℕ → Expr → List Token → Type 0
Complete l h x ts = (n : ℕ) → length ts ≤ n → (d least : ℕ) → h ≤ d → least ≤ l → (rest : List Token) → wants (role (mark rest)) ≤ l → Goes n least d x h (ts ++ rest) rest

-- and are read whole where nothing behind them goes on at their level
abbrev pub Whole : ℕ → ℕ → Expr → List Token → Type 0
Whole l h x ts = (n : ℕ) → length ts < n → (d : ℕ) → h ≤ d → (rest : List Token) → wants (role (mark rest)) ≤ l → makes (role (mark rest)) < l → parse n l d (ts ++ rest) ≡ Some (found x h, rest)

pub whole : (l h : ℕ) (x : Expr) (ts : List Token) → Complete l h x ts → Whole l h x ts
unfolding parse
whole l h x ts all zero short d low rest behind ends = absurd (omega arith)
whole l h x ts all (suc n) short d low rest behind ends =
    let goes = all n (omega arith) d l low (le_refl l) rest behind in
    goes.reads ∙ climb_ends (parse n) n l d goes.turns (line (ts ++ rest)) (found x h) rest ends

-- before a token that ends expressions
pub whole_before : (l h : ℕ) (x : Expr) (ts : List Token) → 0 < l → Complete l h x ts → (n : ℕ) → length ts < n → (d : ℕ) → h ≤ d → (t : Token) (i : List Token) (q : TokenKind) → t.kind ≡ q → role (mark_of q) ≡ r.Ends
    → parse n l d (ts ++ (t ∷ i)) ≡ Some (found x h, t ∷ i)
whole_before l h x ts some all n short d low t i q is ends =
    let w = ap (λ q. wants (role (mark_of q))) is ∙ ap wants ends in
    let m = ap (λ q. makes (role (mark_of q))) is ∙ ap makes ends in
    whole l h x ts all n short d low (t ∷ i) (omega arith) (omega arith)

-- what a part of a list reads
abbrev pub CompletePart : (p : Parts) → ℕ → Part p → List Token → Type 0
CompletePart p h x ts = (n : ℕ) → length ts < n → (d : ℕ) → h ≤ d → (rest : List Token) → Behind p (mark rest) → part (parse n) n p d (ts ++ rest) ≡ Some (found x h, rest)

abbrev pub CompleteTail : (p : Parts) → ℕ → List (Part p) → List Token → Type 0
CompleteTail p h xs ts = (n m : ℕ) → length ts < n → length ts < m → (d : ℕ) → h ≤ d → (acc : Found (List (Part p))) (rest : List Token) → Over p (mark rest)
    → tail_from (parse n) n p (part (parse n) n p) d m acc (ts ++ rest) ≡ Some (joined acc xs h, rest)

abbrev pub CompleteRun : (p : Parts) → ℕ → List (Part p) → List Token → Type 0
CompleteRun p h xs ts = runs p ≡ true → (n m : ℕ) → length ts < n → length ts < m → (d : ℕ) → h ≤ d → (acc : Found (List (Part p))) (rest : List Token) → Behind p (mark rest) → begins p (mark rest) ≡ false
    → run_from (parse n) n p (part (parse n) n p) d m acc (ts ++ rest) ≡ Some (joined acc xs h, rest)

abbrev pub CompleteInside : Bracket → ℕ → ℕ → Expr → List Token → Type 0
CompleteInside b at h x ts = (n : ℕ) → length ts < n → (d : ℕ) → h ≤ d → (rest : List Token) → mark rest ≡ m.Sign (closing b) → inside (parse n) n b at d (ts ++ rest) ≡ Some (found x h, rest)

abbrev pub CompleteParams : ℕ → List (Param Expr) → List Token → Type 0
CompleteParams h ps ts = (n : ℕ) → length ts < n → (d : ℕ) → h ≤ d → (rest : List Token) → Over Parts.params (mark rest) → params (parse n) n d (ts ++ rest) ≡ Some (found ps h, rest)

abbrev pub CompleteArguments : ℕ → List (Argument Expr) → List Token → Type 0
CompleteArguments h args ts = (n : ℕ) → length ts < n → (d : ℕ) → h ≤ d → (rest : List Token) → mark rest ≡ m.Sign s.RightParen → arguments (parse n) n d (ts ++ rest) ≡ Some (found args h, rest)

abbrev pub CompleteSubscripts : ℕ → Subscript Expr → List Token → Type 0
CompleteSubscripts h i ts = (n : ℕ) → length ts < n → (d : ℕ) → h ≤ d → (rest : List Token) → mark rest ≡ m.Sign s.RightBracket → subscripts (parse n) n d (ts ++ rest) ≡ Some (found i h, rest)

-- ---- what the next token makes of an expression

-- an operation grows a tree that was read
grow : (l g h : ℕ) (x y : Expr) (xs : List Token) → Begins l xs → Complete l g x xs → (n : ℕ) → length xs ≤ n → (d least : ℕ) → g < h → h ≤ d → (i rest start : List Token) (q : Role) → role (mark i) ≡ q → wants q ≤ l → least ≤ makes q
    → xs ++ i ≡ start → operated (parse n) n (line xs) d (found x g) q i ≡ Some (found y h, rest) → Goes n least d y h start rest
grow l g h x y xs f a n fits d least taller low i rest start q is takes goes_on cut e =
    let w = ap wants is in
    let mw = makes_wants q in
    let left = a n fits d least (omega arith) (omega arith) i (omega arith) in
    postfix n least d x y g h (line xs) start i rest q is (sym (ap line cut) ∙ fronted l xs f i) (subst (λ s. Goes n least d x g s i) cut left) goes_on e taller low

pub on_up : (l m h : ℕ) (x : Expr) (ts : List Token) → l ≤ m → Complete m h x ts → Complete l h x ts
on_up l m h x ts tighter a n fits d least low in_level rest behind = a n fits d least low (le_trans in_level tighter) rest (le_trans behind tighter)

pub on_operates : (c : Chain) (o : Operator) (g h : ℕ) (x y : Expr) (xs ys : List Token) (t : Token) → Begins (level_of c) xs → Complete (level_of c) g x xs → role (mark_of t.kind) ≡ r.Infix c o → Complete (level_of c + 1) h y ys
    → Complete (level_of c) (max g h + 1) (combined (line xs) o x y) (xs ++ t ∷ ys)
on_operates c o g h x y xs ys t f a is b n fits d least low in_level rest behind =
    let size = length-append xs (t ∷ ys) in
    let mw = makes_wants (role (mark rest)) in
    let right = whole (level_of c + 1) h y ys b n (omega arith) (d - 1) (omega arith) rest (omega arith) (omega arith) in
    grow (level_of c) g (max g h + 1) x _ xs f a n (omega arith) d least (omega arith) low (t ∷ (ys ++ rest)) rest _ (r.Infix c o) is (le_refl (level_of c)) in_level (sym (append_assoc xs (t ∷ ys) rest))
    (rw right (tall_enough d (max g h) _ rest low))

pub on_raises : (g h : ℕ) (x y : Expr) (xs ys : List Token) (t : Token) → Begins primary xs → Complete primary g x xs → IsSign t s.DoubleStar → Complete signed h y ys
    → Complete power (max g h + 1) (e.Binary (line xs) binary.Power x y) (xs ++ t ∷ ys)
on_raises g h x y xs ys t f a is b n fits d least low in_level rest behind =
    let size = length-append xs (t ∷ ys) in
    let far = behind_power (role (mark rest)) behind in
    let right = whole signed h y ys b n (omega arith) (d - 1) (omega arith) rest far.0 far.1 in
    grow primary g (max g h + 1) x _ xs f a n (omega arith) d least (omega arith) low (t ∷ (ys ++ rest)) rest _ r.Power (ap (λ q. role (mark_of q)) is) (omega arith) (omega arith) (sym (append_assoc xs (t ∷ ys) rest))
    (rw right (tall_enough d (max g h) _ rest low))

pub on_condition : (g h j : ℕ) (x y z : Expr) (xs ys zs : List Token) (t u : Token) → Begins disjunction xs → Complete disjunction g x xs → IsWord t w.If → Complete disjunction h y ys → IsWord u w.Else → Complete expression j z zs
    → Complete expression (max g (max h j) + 1) (e.Conditional (line xs) y x z) (xs ++ t ∷ ys ++ u ∷ zs)
unfolding conditional
on_condition g h j x y z xs ys zs t u f a is b other c n fits d least low in_level rest behind =
    let size = length-append (xs ++ t ∷ ys) (u ∷ zs) in
    let size2 = length-append xs (t ∷ ys) in
    let far = behind_expression (role (mark rest)) behind in
    let cut : xs ++ (t ∷ (ys ++ (u ∷ (zs ++ rest)))) ≡ (xs ++ t ∷ ys ++ u ∷ zs) ++ rest = simp append_assoc in
    let test = whole_before disjunction h y ys (omega arith) b n (omega arith) (d - 1) (omega arith) u (zs ++ rest) _ other refl in
    let last = whole expression j z zs c n (omega arith) (d - 1) (omega arith) rest behind far in
    grow disjunction g (max g (max h j) + 1) x _ xs f a n (omega arith) d least (omega arith) low (t ∷ (ys ++ (u ∷ (zs ++ rest)))) rest _ r.Condition (ap (λ q. role (mark_of q)) is) (omega arith) in_level cut
    (rw (test, expects_word u w.Else (zs ++ rest) other, last) (tall_enough d (max g (max h j)) _ rest low))

pub on_attribute : (g : ℕ) (y : Expr) (name : List ℕ) (xs : List Token) (t u : Token) → Begins primary xs → Complete primary g y xs → IsSign t s.Dot → u.kind ≡ k.Name name → Complete primary (g + 1) (e.Attribute (line xs) y name) (xs ++ t ∷ u ∷ [])
on_attribute g y name xs t u f a is named n fits d least low in_level rest behind =
    let size = length-append xs (t ∷ u ∷ []) in
    grow primary g (g + 1) y _ xs f a n (omega arith) d least (omega arith) low (t ∷ u ∷ rest) rest _ r.Attribute (ap (λ q. role (mark_of q)) is) (omega arith) in_level (sym (append_assoc xs (t ∷ u ∷ []) rest))
    (rw (names u rest named) (tall_enough d g _ rest low))

pub on_index : (g h : ℕ) (x : Expr) (i : Subscript Expr) (xs ys : List Token) (t u : Token) → Begins primary xs → Complete primary g x xs → IsSign t s.LeftBracket → CompleteSubscripts h i ys → IsSign u s.RightBracket
    → Complete primary (max g h + 1) (e.Index (line xs) x i) (xs ++ t ∷ ys ++ u ∷ [])
unfolding index
on_index g h x i xs ys t u f a is b end n fits d least low in_level rest behind =
    let size = length-append (xs ++ t ∷ ys) (u ∷ []) in
    let size2 = length-append xs (t ∷ ys) in
    let cut : xs ++ (t ∷ (ys ++ (u ∷ rest))) ≡ (xs ++ t ∷ ys ++ u ∷ []) ++ rest = simp append_assoc in
    let inner = b n (omega arith) (d - 1) (omega arith) (u ∷ rest) (ap mark_of end) in
    grow primary g (max g h + 1) x _ xs f a n (omega arith) d least (omega arith) low (t ∷ (ys ++ (u ∷ rest))) rest _ r.Index (ap (λ q. role (mark_of q)) is) (omega arith) in_level cut
    (rw (inner, expects u s.RightBracket rest end) (tall_enough d (max g h) _ rest low))

pub on_calls : (g h : ℕ) (x : Expr) (args : List (Argument Expr)) (xs ys : List Token) (t u : Token) → Begins primary xs → Complete primary g x xs → IsSign t s.LeftParen → CompleteArguments h args ys → IsSign u s.RightParen
    → Complete primary (max g h + 1) (e.Call (line xs) x args) (xs ++ t ∷ ys ++ u ∷ [])
unfolding call
on_calls g h x args xs ys t u f a is b end n fits d least low in_level rest behind =
    let size = length-append (xs ++ t ∷ ys) (u ∷ []) in
    let size2 = length-append xs (t ∷ ys) in
    let cut : xs ++ (t ∷ (ys ++ (u ∷ rest))) ≡ (xs ++ t ∷ ys ++ u ∷ []) ++ rest = simp append_assoc in
    let inner = b n (omega arith) (d - 1) (omega arith) (u ∷ rest) (ap mark_of end) in
    grow primary g (max g h + 1) x _ xs f a n (omega arith) d least (omega arith) low (t ∷ (ys ++ (u ∷ rest))) rest _ r.Call (ap (λ q. role (mark_of q)) is) (omega arith) in_level cut
    (rw (inner, expects u s.RightParen rest end) (tall_enough d (max g h) _ rest low))

behind_links : (q : Mark) → wants (role q) ≤ comparison → Behind Parts.links q
behind_links q h = let mw = makes_wants (role q) in record { takes = omega arith; ends = omega arith; apart = refl }

pub on_compares : (f g h : ℕ) (x : Expr) (l : Link Expr) (ls : List (Link Expr)) (xs ys zs : List Token) → Begins bitor xs → Complete bitor f x xs → ((i : List Token) → role (mark (ys ++ i)) ≡ r.Compares) → CompletePart Parts.links g l ys
    → Run Parts.links h ls zs → CompleteRun Parts.links h ls zs → Complete comparison (max f (max g h) + 1) (e.Compare (line xs) x (l ∷ ls)) (xs ++ ys ++ zs)
unfolding compare
on_compares f g h x l ls xs ys zs first a is b run c n fits d least low in_level rest behind =
    let size = length-append (xs ++ ys) zs in
    let size2 = length-append xs ys in
    let some = some_token bitor xs first in
    let cut : xs ++ (ys ++ (zs ++ rest)) ≡ (xs ++ ys ++ zs) ++ rest = simp append_assoc in
    let next = run_mark (Behind Parts.links) run (running Parts.links refl) rest (behind_links (mark rest) behind) in
    let one = b n (omega arith) (d - 1) (omega arith) (zs ++ rest) next in
    let others = c refl n n (omega arith) (omega arith) (d - 1) (omega arith) (only (found l g)) rest (behind_links (mark rest) behind) (not_comparison (role (mark rest)) behind) in
    grow bitor f (max f (max g h) + 1) x _ xs first a n (omega arith) d least (omega arith) low (ys ++ (zs ++ rest)) rest _ r.Compares (is (zs ++ rest)) (omega arith) in_level cut
    (rw (one, others) (tall_enough d (max f (max g h)) _ rest low))

-- ---- the first token of an expression

opens : (again : ℕ → ℕ → Parser (Found Expr)) (n least d : ℕ) (b : Bracket) → prefix_by again n least d (m.Sign (opening b)) ≡ bracketed again n b d
opens again n least d b.Round = refl
opens again n least d b.Square = refl
opens again n least d b.Curly = refl

signs_by : (again : ℕ → ℕ → Parser (Found Expr)) (n least d : ℕ) (o : Unary) → prefix_by again n least d (m.Sign (sign_of o)) ≡ under again n o least d
signs_by again n least d unary.Plus = refl
signs_by again n least d unary.Minus = refl
signs_by again n least d unary.Invert = refl

pub on_signs : (o : Unary) (h : ℕ) (x : Expr) (xs : List Token) (t : Token) → IsSign t (sign_of o) → Complete signed h x xs → Complete signed (h + 1) (e.Unary t.line o x) (t ∷ xs)
unfolding prefix under
on_signs o h x xs t is a n fits d least low in_level rest behind =
    let far = behind_power (role (mark rest)) (omega arith) in
    let inner = whole signed h x xs a n (omega arith) (d - 1) (omega arith) rest behind far.1 in
    begin n least d _ (h + 1) (t ∷ (xs ++ rest)) rest (rw (is, signs_by (parse n) n least d o, le-ltb signed least in_level, inner) (tall_enough d h _ rest low))

pub on_negates : (h : ℕ) (x : Expr) (xs : List Token) (t : Token) → IsWord t w.Not → Complete negation h x xs → Complete negation (h + 1) (e.Not t.line x) (t ∷ xs)
unfolding prefix negated
on_negates h x xs t is a n fits d least low in_level rest behind =
    let inner = whole negation h x xs a n (omega arith) (d - 1) (omega arith) rest behind (behind_negation (role (mark rest)) behind) in
    begin n least d _ (h + 1) (t ∷ (xs ++ rest)) rest (rw (is, le-ltb negation least in_level, inner) (tall_enough d h _ rest low))

over_colon : Over Parts.params (m.Sign s.Colon)
over_colon = record { behind = record { takes = omega arith; ends = omega arith; apart = refl }; no_comma = refl; no_part = refl }

pub on_lambda : (g h : ℕ) (ps : List (Param Expr)) (x : Expr) (xs ys : List Token) (t u : Token) → IsWord t w.Lambda → CompleteParams g ps xs → IsSign u s.Colon → Complete expression h x ys
    → Complete expression (max g h + 1) (e.Lambda t.line ps x) (t ∷ xs ++ u ∷ ys)
unfolding prefix lambda
on_lambda g h ps x xs ys t u is a colon b n fits d least low in_level rest behind =
    let size = length-append xs (u ∷ ys) in
    let far = behind_expression (role (mark rest)) behind in
    let all = a n (omega arith) (d - 1) (omega arith) (u ∷ (ys ++ rest)) (subst (Over Parts.params) (sym (ap mark_of colon)) over_colon) in
    let inner = whole expression h x ys b n (omega arith) (d - 1) (omega arith) rest behind far in
    begin n least d _ (max g h + 1) _ rest (rw (is, le-ltb expression least in_level, append_assoc xs (u ∷ ys) rest, all, expects u s.Colon (ys ++ rest) colon, inner) (tall_enough d (max g h) _ rest low))

prefix_is : (again : ℕ → ℕ → Parser (Found Expr)) (n least d : ℕ) (i : List Token) (q : Mark) → mark i ≡ q → prefix again n least d i ≡ prefix_by again n least d q i
unfolding prefix
prefix_is again n least d i q is = ap (λ q. prefix_by again n least d q i) is

pub on_leaf : {x : Expr} {t : Token} → Leaf x t → Complete atom 1 x (t ∷ [])
unfolding prefix
on_leaf (Leaf.name t is) n fits d least low in_level rest behind = begin n least d _ 1 (t ∷ rest) rest (prefix_is (parse n) n least d (t ∷ rest) m.Name (ap mark_of is) ∙ rw (names t rest is) (tall_enough d 0 _ rest low))
on_leaf (Leaf.number t is) n fits d least low in_level rest behind = begin n least d _ 1 (t ∷ rest) rest (prefix_is (parse n) n least d (t ∷ rest) m.Number (ap mark_of is) ∙ rw (numbers t rest is) (tall_enough d 0 _ rest low))
on_leaf (Leaf.none t is) n fits d least low in_level rest behind = begin n least d _ 1 (t ∷ rest) rest (rw is (tall_enough d 0 _ rest low))
on_leaf (Leaf.yes t is) n fits d least low in_level rest behind = begin n least d _ 1 (t ∷ rest) rest (rw is (tall_enough d 0 _ rest low))
on_leaf (Leaf.no t is) n fits d least low in_level rest behind = begin n least d _ 1 (t ∷ rest) rest (rw is (tall_enough d 0 _ rest low))

no_text : (q : TokenKind) → wants (role (mark_of q)) ≤ atom → text_of q ≡ None
no_text (k.Text text) h = absurd (omega arith)
no_text _ h = refl

texts_stop : (before : List ℕ) (rest : List Token) → wants (role (mark rest)) ≤ atom → texts_from before rest ≡ Some (before, rest)
unfolding texts_from
texts_stop before [] h = refl
texts_stop before (t ∷ i) h = rw (no_text t.kind h) refl

read_texts : {text : List ℕ} {ts : List Token} → Texts text ts → (before : List ℕ) (rest : List Token) → wants (role (mark rest)) ≤ atom → texts_from before (ts ++ rest) ≡ Some (before ++ text, rest)
unfolding texts_from
read_texts (Texts.last {text = text} t is) before rest h = rw is (texts_stop (before ++ text) rest h)
read_texts (Texts.more {text = text} {texts = texts} t is ts) before rest h = rw is (read_texts ts (before ++ text) rest h ∙ ap (λ s. Some (s, rest)) (append_assoc before text texts))

pub texts_mark : {text : List ℕ} {ts : List Token} → Texts text ts → (rest : List Token) → (mark (ts ++ rest) ≡ m.Text) × (line (ts ++ rest) ≡ line ts)
texts_mark (Texts.last t is) rest = (ap mark_of is, refl)
texts_mark (Texts.more t is ts) rest = (ap mark_of is, refl)

pub on_text : (text : List ℕ) (ts : List Token) → Texts text ts → Complete atom 1 (e.Text (line ts) text) ts
unfolding prefix
on_text text ts a n fits d least low in_level rest behind =
    let first = texts_mark a rest in
    begin n least d _ 1 (ts ++ rest) rest (rw (first.0, first.1, read_texts a [] rest behind) (tall_enough d 0 _ rest low))

pub on_bracket : (b : Bracket) (h : ℕ) (x : Expr) (xs : List Token) (t u : Token) → IsSign t (opening b) → CompleteInside b t.line h x xs → IsSign u (closing b) → Complete atom h x (t ∷ xs ++ u ∷ [])
unfolding prefix bracketed
on_bracket b h x xs t u is a end n fits d least low in_level rest behind =
    let size = length-append xs (u ∷ []) in
    let inner = a n (omega arith) d low (u ∷ rest) (ap mark_of end) in
    begin n least d x h _ rest (rw (is, opens (parse n) n least d b, append_assoc xs (u ∷ []) rest, inner, expects u (closing b) rest end) refl)
