-- The first tokens of what the grammar spells.
use Rattle.std.proofs.Common.{◌≡◌, ◌≢◌, ℕ, ◌<◌, ◌≤◌, Bool, true, false, cond, List, [], ◌∷◌, ◌++◌, length, refl, ap, ◌∙◌, sym, subst, arith, append_assoc, le_refl, le_trans}
use Rattle.std.proofs.lemmas.Bool.{le-leb, leb-true}
use Rattle.py_ast.specs.declared.token.Token.{Token}
use Rattle.py_ast.specs.declared.token.TokenKind.TheVariants as k
use Rattle.py_ast.specs.declared.spelled.Word.{Word}
use Rattle.py_ast.specs.declared.spelled.Word.TheVariants as w
use Rattle.py_ast.specs.declared.spelled.Sign.{Sign}
use Rattle.py_ast.specs.declared.spelled.Sign.TheVariants as s
use Rattle.py_ast.specs.declared.expr.Unary.{Unary}
use Rattle.py_ast.specs.declared.expr.Unary.TheVariants as unary
use Rattle.py_ast.specs.declared.expr.Comparison.{Comparison}
use Rattle.py_ast.specs.declared.expr.Expr.{Expr}
use Rattle.py_grammar.specs.declared.role.Mark.{Mark}
use Rattle.py_grammar.specs.declared.role.Mark.TheVariants as m
use Rattle.py_grammar.specs.declared.role.Role.TheVariants as r
use Rattle.py_grammar.specs.declared.role.Row.{Row}
use Rattle.py_grammar.specs.declared.role.Row.TheVariants as row
use Rattle.py_grammar.specs.declared.role.Bracket.{Bracket}
use Rattle.py_grammar.specs.declared.role.Bracket.TheVariants as b
use Rattle.py_grammar.specs.Levels.{expression, disjunction, negation, comparison, bitor, signed, power, primary, atom, level_of, plain_level, role, mark, mark_of, line, next, sign_of, opening, can_begin}
use Rattle.py_grammar.specs.Grammar.{Spells, PartOf, Part, Parts, Tail, Run, Compares, Leaf, Texts, IsSign, IsWord, LoopOf}
use Rattle.py_grammar.specs.Parse.{is_sign, is_word, is_name, is_comparison, begins, begins_item, begins_argument, begins_entry, sees, sees_keyword}
use Rattle.py_grammar.proofs.Roles.{plain_positive}

-- the expression begins with a token that may begin one at its level
pub record Begins (l : ℕ) (ts : List Token) : Type 0 where
  pub first : Token
  pub others : List Token
  pub cut : ts ≡ first ∷ others
  pub can : can_begin l (mark_of first.kind) ≡ true

looser : (l n : ℕ) (q : Mark) → l ≤ n → can_begin n q ≡ true → can_begin l q ≡ true
looser l n (m.Keyword w.Not) tighter h = le-leb l negation (le_trans tighter (leb-true n negation h))
looser l n (m.Keyword w.Lambda) tighter h = le-leb l expression (le_trans tighter (leb-true n expression h))
looser l n (m.Sign s.Plus) tighter h = le-leb l signed (le_trans tighter (leb-true n signed h))
looser l n (m.Sign s.Minus) tighter h = le-leb l signed (le_trans tighter (leb-true n signed h))
looser l n (m.Sign s.Tilde) tighter h = le-leb l signed (le_trans tighter (leb-true n signed h))
looser l n _ tighter h = h

front : {l n : ℕ} {xs : List Token} (ys : List Token) → l ≤ n → Begins n xs → Begins l (xs ++ ys)
front ys tighter b = record { first = b.first; others = b.others ++ ys; cut = ap (λ s. s ++ ys) b.cut; can = looser _ _ (mark_of b.first.kind) tighter b.can }

starts : (l : ℕ) (t : Token) (us : List Token) → can_begin l (mark_of t.kind) ≡ true → Begins l (t ∷ us)
starts l t us h = record { first = t; others = us; cut = refl; can = h }

can_sign : (o : Unary) → can_begin signed (m.Sign (sign_of o)) ≡ true
can_sign unary.Plus = refl
can_sign unary.Minus = refl
can_sign unary.Invert = refl

can_open : (b : Bracket) → can_begin atom (m.Sign (opening b)) ≡ true
can_open b.Round = refl
can_open b.Square = refl
can_open b.Curly = refl

can_leaf : {x : Expr} {t : Token} → Leaf x t → can_begin atom (mark_of t.kind) ≡ true
can_leaf (Leaf.name t is) = ap (λ q. can_begin atom (mark_of q)) is
can_leaf (Leaf.number t is) = ap (λ q. can_begin atom (mark_of q)) is
can_leaf (Leaf.none t is) = ap (λ q. can_begin atom (mark_of q)) is
can_leaf (Leaf.yes t is) = ap (λ q. can_begin atom (mark_of q)) is
can_leaf (Leaf.no t is) = ap (λ q. can_begin atom (mark_of q)) is

begins_texts : {text : List ℕ} {ts : List Token} → Texts text ts → Begins atom ts
begins_texts (Texts.last t is) = starts _ t _ (ap (λ q. can_begin atom (mark_of q)) is)
begins_texts (Texts.more t is ts) = starts _ t _ (ap (λ q. can_begin atom (mark_of q)) is)

pub begins_with : {l h : ℕ} {x : Expr} {ts : List Token} → Spells l h x ts → Begins l ts
begins_with (Spells.up tighter s) = let b = begins_with s in record { first = b.first; others = b.others; cut = b.cut; can = looser _ _ (mark_of b.first.kind) tighter b.can }
begins_with (Spells.lambda t u is ps colon a) = starts _ t _ (ap (λ q. can_begin expression (mark_of q)) is)
begins_with (Spells.condition t u a is b other c) = front _ (le_refl expression) (front _ (let d : expression ≤ disjunction = omega arith in d) (begins_with a))
begins_with (Spells.operates {c = c} t a is b) = front _ (le_refl (level_of c)) (begins_with a)
begins_with (Spells.negates t is a) = starts _ t _ (ap (λ q. can_begin negation (mark_of q)) is)
begins_with (Spells.compares a l ls) = front _ (le_refl comparison) (front _ (let d : comparison ≤ bitor = omega arith in d) (begins_with a))
begins_with (Spells.signs {o = o} t is a) = starts _ t _ (ap (λ q. can_begin signed (mark_of q)) is ∙ can_sign o)
begins_with (Spells.raises t a is b) = front _ (let d : power ≤ primary = omega arith in d) (begins_with a)
begins_with (Spells.attribute t u a is b) = front _ (le_refl primary) (begins_with a)
begins_with (Spells.index t u a is b end) = front _ (le_refl primary) (front _ (le_refl primary) (begins_with a))
begins_with (Spells.calls t u a is b end) = front _ (le_refl primary) (front _ (le_refl primary) (begins_with a))
begins_with (Spells.leaf t l) = starts _ t _ (can_leaf l)
begins_with (Spells.text ts) = begins_texts ts
begins_with (Spells.bracket {b = b} t u is a end) = starts _ t _ (ap (λ q. can_begin atom (mark_of q)) is ∙ can_open b)

pub some_token : (l : ℕ) (xs : List Token) → Begins l xs → 0 < length xs
some_token l xs b = omega (arith, ap length b.cut)

pub mark_front : (l : ℕ) (xs i : List Token) → Begins l xs → can_begin l (mark (xs ++ i)) ≡ true
mark_front l xs i b = rw b.cut b.can

-- what follows has no part in the first line
abbrev pub Fronted : List Token → Type 0
Fronted xs = (i : List Token) → line (xs ++ i) ≡ line xs

pub fronted : (l : ℕ) (xs : List Token) → Begins l xs → Fronted xs
fronted l xs b i = rw b.cut refl

-- ---- an expression is not taken for a keyword argument

abbrev pub Unkeyed : List Token → Type 0
Unkeyed ts = (i : List Token) → sees s.Equal i ≡ false → sees_keyword (ts ++ i) ≡ false

unkeyed_behind : (xs ys : List Token) → Unkeyed xs → ((i : List Token) → sees s.Equal (ys ++ i) ≡ false) → Unkeyed (xs ++ ys)
unkeyed_behind xs ys f g i h = rw (append_assoc xs ys i) (f (ys ++ i) (g i))

unkeyed_first : (t : Token) (ts : List Token) → is_name (mark_of t.kind) ≡ false → Unkeyed (t ∷ ts)
unfolding sees_keyword
unkeyed_first t ts other i h = rw other refl

unkeyed_name : (t : Token) → Unkeyed (t ∷ [])
unfolding sees_keyword
unkeyed_name t i h = by (is_name (mark_of t.kind))
  where
    by : (b : Bool) → cond b (sees s.Equal i) false ≡ false
    by true = h
    by false = refl

not_equal : (q : Mark) → role q ≢ r.Ends → is_sign s.Equal q ≡ false
not_equal (m.Sign s.Equal) h = absurd (h refl)
not_equal _ h = refl

by_sign : (t : Token) (o : Sign) (i : List Token) → IsSign t o → is_sign s.Equal (m.Sign o) ≡ false → sees s.Equal (t ∷ i) ≡ false
unfolding sees
by_sign t o i is other = ap (λ q. is_sign s.Equal (mark_of q)) is ∙ other

by_word : (t : Token) (o : Word) (i : List Token) → IsWord t o → sees s.Equal (t ∷ i) ≡ false
unfolding sees
by_word t o i is = ap (λ q. is_sign s.Equal (mark_of q)) is

by_role : (i : List Token) → role (mark i) ≢ r.Ends → sees s.Equal i ≡ false
unfolding sees
by_role i h = not_equal (mark i) h

unnamed_open : (b : Bracket) → is_name (m.Sign (opening b)) ≡ false
unnamed_open b.Round = refl
unnamed_open b.Square = refl
unnamed_open b.Curly = refl

begins_links : {o : Comparison} {os : List Token} → Compares o os → (i : List Token) → role (mark (os ++ i)) ≡ r.Compares
begins_links (Compares.less t is) i = ap (λ q. role (mark_of q)) is
begins_links (Compares.greater t is) i = ap (λ q. role (mark_of q)) is
begins_links (Compares.less_equal t is) i = ap (λ q. role (mark_of q)) is
begins_links (Compares.greater_equal t is) i = ap (λ q. role (mark_of q)) is
begins_links (Compares.equal t is) i = ap (λ q. role (mark_of q)) is
begins_links (Compares.not_equal t is) i = ap (λ q. role (mark_of q)) is
begins_links (Compares.within t is) i = ap (λ q. role (mark_of q)) is
begins_links (Compares.not_within t u is in_) i = ap (λ q. role (mark_of q)) is
begins_links (Compares.is_one t is) i = ap (λ q. role (mark_of q)) is
begins_links (Compares.is_not t u is not) i = ap (λ q. role (mark_of q)) is

pub begins_loop : {n h : ℕ} {x y : Expr} {ts : List Token} → LoopOf n h x y ts → (i : List Token) → mark (ts ++ i) ≡ m.Keyword w.For
begins_loop (LoopOf.ranges t u is a in_ b) i = ap mark_of is

item_begins : (r : Row) (q : Mark) → can_begin (plain_level r) q ≡ true → begins_item r q ≡ true
item_begins r (m.Sign s.Star) h = refl
item_begins r _ h = h

argument_begins : (q : Mark) → can_begin expression q ≡ true → begins_argument q ≡ true
argument_begins (m.Sign s.Star) h = refl
argument_begins (m.Sign s.DoubleStar) h = refl
argument_begins _ h = h

entry_begins : (q : Mark) → can_begin expression q ≡ true → begins_entry q ≡ true
entry_begins (m.Sign s.DoubleStar) h = refl
entry_begins _ h = h

-- each part begins with a token that begins parts
pub begins_part : {p : Parts} {h : ℕ} {x : Part p} {ts : List Token} → PartOf p h x ts → (i : List Token) → begins p (mark (ts ++ i)) ≡ true
begins_part (PartOf.item {r = r} a) i = item_begins r _ (mark_front _ _ i (begins_with a))
begins_part (PartOf.star_item {r = r} t is a) i = ap (λ q. begins_item r (mark_of q)) is
begins_part (PartOf.argument a) i = argument_begins _ (mark_front _ _ i (begins_with a))
begins_part (PartOf.star_argument t is a) i = ap (λ q. begins_argument (mark_of q)) is
begins_part (PartOf.keyword t u is eq a) i = ap (λ q. begins_argument (mark_of q)) is
begins_part (PartOf.merge_argument t is a) i = ap (λ q. begins_argument (mark_of q)) is
begins_part (PartOf.pair {xs = xs} {ys = ys} t a is b) i = rw (append_assoc xs (t ∷ ys) i) (entry_begins _ (mark_front _ _ (t ∷ (ys ++ i)) (begins_with a)))
begins_part (PartOf.merge_entry t is a) i = ap (λ q. begins_entry (mark_of q)) is
begins_part (PartOf.named t is) i = ap (λ q. begins Parts.params (mark_of q)) is
begins_part (PartOf.default t u is eq a) i = ap (λ q. begins Parts.params (mark_of q)) is
begins_part (PartOf.slash t is) i = ap (λ q. begins Parts.params (mark_of q)) is
begins_part (PartOf.bare_star t is) i = ap (λ q. begins Parts.params (mark_of q)) is
begins_part (PartOf.star_param t u is n) i = ap (λ q. begins Parts.params (mark_of q)) is
begins_part (PartOf.double_star t u is n) i = ap (λ q. begins Parts.params (mark_of q)) is
begins_part (PartOf.place a) i = mark_front _ _ i (begins_with a)
begins_part (PartOf.link {os = os} {ys = ys} o a) i = rw (append_assoc os ys i) (ap is_comparison (begins_links o (ys ++ i)))
begins_part (PartOf.loop a) i = ap (begins Parts.clauses) (begins_loop a i)
begins_part (PartOf.test t is a) i = ap (λ q. begins Parts.clauses (mark_of q)) is

pub link_role : {h : ℕ} {x : Part Parts.links} {ts : List Token} → PartOf Parts.links h x ts → (i : List Token) → role (mark (ts ++ i)) ≡ r.Compares
link_role (PartOf.link {os = os} {ys = ys} o a) i = rw (append_assoc os ys i) (begins_links o (ys ++ i))

unkeyed_texts : {text : List ℕ} {ts : List Token} → Texts text ts → Unkeyed ts
unkeyed_texts (Texts.last t is) = unkeyed_first t [] (ap (λ q. is_name (mark_of q)) is)
unkeyed_texts (Texts.more {ts = ts} t is all) = unkeyed_first t ts (ap (λ q. is_name (mark_of q)) is)

pub unkeyed : {l h : ℕ} {x : Expr} {ts : List Token} → Spells l h x ts → Unkeyed ts
unkeyed (Spells.up tighter s) = unkeyed s
unkeyed (Spells.lambda t u is ps colon a) = unkeyed_first t _ (ap (λ q. is_name (mark_of q)) is)
unkeyed (Spells.condition {xs = xs} {ys = ys} {zs = zs} t u a is b other c) = unkeyed_behind _ (u ∷ zs) (unkeyed_behind xs (t ∷ ys) (unkeyed a) (λ i. by_role (t ∷ (ys ++ i)) (λ e. cc))) (λ i. by_word u w.Else (zs ++ i) other)
unkeyed (Spells.operates {xs = xs} {ys = ys} t a is b) = unkeyed_behind xs (t ∷ ys) (unkeyed a) (λ i. by_role (t ∷ (ys ++ i)) (λ e. cc))
unkeyed (Spells.negates t is a) = unkeyed_first t _ (ap (λ q. is_name (mark_of q)) is)
unkeyed (Spells.compares {xs = xs} {ys = ys} {zs = zs} a l ls) = subst Unkeyed (sym (append_assoc xs ys zs)) (unkeyed_behind xs (ys ++ zs) (unkeyed a) (λ i. by_role ((ys ++ zs) ++ i) (λ e. let c = link_role l (zs ++ i) in let s = append_assoc ys zs i in cc)))
unkeyed (Spells.signs {o = o} t is a) = unkeyed_first t _ (ap (λ q. is_name (mark_of q)) is)
unkeyed (Spells.raises {xs = xs} {ys = ys} t a is b) = unkeyed_behind xs (t ∷ ys) (unkeyed a) (λ i. by_sign t s.DoubleStar (ys ++ i) is refl)
unkeyed (Spells.attribute {xs = xs} t u a is b) = unkeyed_behind xs (t ∷ u ∷ []) (unkeyed a) (λ i. by_sign t s.Dot (u ∷ i) is refl)
unkeyed (Spells.index {xs = xs} {ys = ys} t u a is b end) = unkeyed_behind _ (u ∷ []) (unkeyed_behind xs (t ∷ ys) (unkeyed a) (λ i. by_sign t s.LeftBracket (ys ++ i) is refl)) (λ i. by_sign u s.RightBracket i end refl)
unkeyed (Spells.calls {xs = xs} {ys = ys} t u a is b end) = unkeyed_behind _ (u ∷ []) (unkeyed_behind xs (t ∷ ys) (unkeyed a) (λ i. by_sign t s.LeftParen (ys ++ i) is refl)) (λ i. by_sign u s.RightParen i end refl)
unkeyed (Spells.leaf t l) = unkeyed_name t
unkeyed (Spells.text ts) = unkeyed_texts ts
unkeyed (Spells.bracket {b = b} t u is a end) = unkeyed_first t _ (ap (λ q. is_name (mark_of q)) is ∙ unnamed_open b)

-- ---- the first token behind a part

-- what holds of a comma and of the token behind holds of the first token of a tail and what follows it
pub tail_mark : {p : Parts} {h : ℕ} {xs : List (Part p)} {ts : List Token} (P : Mark → Type 0) → Tail p h xs ts → P (m.Sign s.Comma) → (i : List Token) → P (mark i) → P (mark (ts ++ i))
tail_mark P Tail.done c i e = e
tail_mark P (Tail.trailing t is) c i e = subst P (sym (ap mark_of is)) c
tail_mark P (Tail.more t is a b) c i e = subst P (sym (ap mark_of is)) c

abbrev pub FirstComma : List Token → Type 0
FirstComma [] = Unit {0}
FirstComma (t ∷ ts) = IsSign t s.Comma

pub tail_comma : {p : Parts} {h : ℕ} {xs : List (Part p)} {ts : List Token} → Tail p h xs ts → FirstComma ts
tail_comma Tail.done = tt
tail_comma (Tail.trailing t is) = is
tail_comma (Tail.more t is a b) = is

pub run_mark : {p : Parts} {h : ℕ} {xs : List (Part p)} {ts : List Token} (P : Mark → Type 0) → Run p h xs ts → ((q : Mark) → begins p q ≡ true → P q) → (i : List Token) → P (mark i) → P (mark (ts ++ i))
run_mark P Run.over c i e = e
run_mark P (Run.further {xs = xs} {ys = ys} a b) c i e = subst (λ s. P (mark s)) (sym (append_assoc xs ys i)) (c _ (begins_part a (ys ++ i)))
