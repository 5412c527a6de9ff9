-- Steps of the parser, taken apart.
use Rattle.std.proofs.Common.{◌≡◌, ◌≢◌, ◌⊎◌, ℕ, ℤ, zero, suc, ◌+◌, ◌<◌, ◌≤◌, Bool, true, false, cond, nat_lt, List, [], ◌∷◌, ◌++◌, length, Option, Some, None, refl, ap, ◌∙◌, sym, subst, arith, append_assoc, append-nil, inl, inr, rules}
use Rattle.std.proofs.lemmas.Bool.{ltb-true}
use denote.Enum.Bare.{same_true}
use Rattle.py_ast.specs.contracts.spelled.Sign.{the_type as sign_type}
use Rattle.py_ast.specs.contracts.spelled.Word.{the_type as word_type}
use Rattle.py_ast.specs.declared.token.Token.{Token}
use Rattle.py_ast.specs.declared.token.TokenKind.{TokenKind}
use Rattle.py_ast.specs.declared.token.TokenKind.TheVariants as k
use Rattle.py_ast.specs.declared.spelled.Word.{Word}
use Rattle.py_ast.specs.declared.spelled.Word.TheVariants as w
use Rattle.py_ast.specs.declared.spelled.Sign.{Sign}
use Rattle.py_ast.specs.declared.spelled.Sign.TheVariants as s
use Rattle.py_ast.specs.declared.expr.Comparison.{Comparison}
use Rattle.py_ast.specs.declared.expr.Comparison.TheVariants as cmp
use Rattle.py_ast.specs.declared.expr.Expr.{Expr}
use Rattle.py_grammar.specs.declared.found.Found.{Found}
use Rattle.py_grammar.specs.declared.role.Mark.{Mark}
use Rattle.py_grammar.specs.declared.role.Mark.TheVariants as m
use Rattle.py_grammar.specs.Levels.{mark, mark_of, next, line, role, makes}
use Rattle.py_grammar.specs.Grammar.{Compares, Texts, IsSign, IsWord}
use Rattle.py_grammar.specs.Parse.{Parser, and_then, is_sign, is_word, is_name, sees, sees_word, sees_keyword, after, expect, expect_word, name, name_of, number, number_of, text_of, texts_from, or_else, with_rest, tall, found, comparator, comparator_by}
use Rattle.py_grammar.specs.Laws.{Took}

pub bind_some : {A B : Type 0} (o : Option (A × List Token)) (f : A → Parser B) (p : B × List Token) → and_then o f ≡ Some p → (a : A) × (i : List Token) × (o ≡ Some (a, i)) × (f a i ≡ Some p)
bind_some None f p h = cc
bind_some (Some q) f p h = (q.0, q.1, refl, h)

pub guarded : {A : Type 0} (b : Bool) (o : Option A) (x : A) → cond b o None ≡ Some x → (b ≡ true) × (o ≡ Some x)
guarded true o x h = (refl, h)
guarded false o x h = cc

pub chosen : {A : Type 0} (b : Bool) (o p : A) (x : A) → cond b o p ≡ x → ((b ≡ true) × (o ≡ x)) ⊎ ((b ≡ false) × (p ≡ x))
chosen true o p x h = inl (refl, h)
chosen false o p x h = inr (refl, h)

pub picked : {A : Type 0} (b : Bool) (f g : Parser A) (i j : List Token) (p : A × List Token) → (cond b f g) (cond b i j) ≡ Some p → ((b ≡ true) × (f i ≡ Some p)) ⊎ ((b ≡ false) × (g j ≡ Some p))
picked true f g i j p h = inl (refl, h)
picked false f g i j p h = inr (refl, h)

pub parted : {A : Type 0} (b : Bool) (f g : Parser A) (i : List Token) (p : A × List Token) → (cond b f g) i ≡ Some p → ((b ≡ true) × (f i ≡ Some p)) ⊎ ((b ≡ false) × (g i ≡ Some p))
parted true f g i p h = inl (refl, h)
parted false f g i p h = inr (refl, h)

both_true : (b c : Bool) → cond b c false ≡ true → (b ≡ true) × (c ≡ true)
both_true true c h = (refl, h)
both_true false c h = cc

pub some_inj : {A : Type 0} {a b : A} → ◌≡◌ {A = Option A} (Some a) (Some b) → a ≡ b
some_inj h = cc

-- what was taken is what was answered
pub given : {A : Type 0} {S : ℕ → A → List Token → Type 0} {d : ℕ} {i : List Token} {q p : Found A × List Token} → Took S d i q → ◌≡◌ {A = Option (Found A × List Token)} (Some q) (Some p) → Took S d i p
given {A} {S} {d} {i} t h = subst (λ r. Took S d i r) (some_inj h) t

-- the token at the front is of this kind, and these follow it
pub record Fronts (q : TokenKind) (i j : List Token) : Type 0 where
  pub token : Token
  pub cut : i ≡ token ∷ j
  pub is : token.kind ≡ q

pub sign_kind : (o : Sign) (q : TokenKind) → mark_of q ≡ m.Sign o → q ≡ k.Sign o
sign_kind o (k.Sign t) h = cc
sign_kind o _ h = cc

word_kind : (o : Word) (q : TokenKind) → mark_of q ≡ m.Keyword o → q ≡ k.Keyword o
word_kind o (k.Keyword t) h = cc
word_kind o _ h = cc

pub sign_front : (o : Sign) (i : List Token) → mark i ≡ m.Sign o → Fronts (k.Sign o) i (next i)
sign_front o [] h = cc
sign_front o (t ∷ i) h = record { token = t; cut = refl; is = sign_kind o t.kind h }

pub word_front : (o : Word) (i : List Token) → mark i ≡ m.Keyword o → Fronts (k.Keyword o) i (next i)
word_front o [] h = cc
word_front o (t ∷ i) h = record { token = t; cut = refl; is = word_kind o t.kind h }

is_sign_says : (o : Sign) (q : Mark) → is_sign o q ≡ true → q ≡ m.Sign o
is_sign_says o (m.Sign t) h = ap m.Sign (same_true sign_type (search rules) t o h)
is_sign_says o _ h = cc

is_word_says : (o : Word) (q : Mark) → is_word o q ≡ true → q ≡ m.Keyword o
is_word_says o (m.Keyword t) h = ap m.Keyword (same_true word_type (search rules) t o h)
is_word_says o _ h = cc

pub sees_says : (o : Sign) (i : List Token) → sees o i ≡ true → Fronts (k.Sign o) i (next i)
unfolding sees
sees_says o i h = sign_front o i (is_sign_says o (mark i) h)

pub sees_word_says : (o : Word) (i : List Token) → sees_word o i ≡ true → Fronts (k.Keyword o) i (next i)
unfolding sees_word
sees_word_says o i h = word_front o i (is_word_says o (mark i) h)

pub sees_word_mark : (o : Word) (i : List Token) → sees_word o i ≡ true → mark i ≡ m.Keyword o
unfolding sees_word
sees_word_mark o i h = is_word_says o (mark i) h

pub expect_says : (o : Sign) (i : List Token) (p : Unit {0} × List Token) → expect o i ≡ Some p → Fronts (k.Sign o) i p.1
unfolding expect
expect_says o i p h =
    let g = guarded (sees o i) (Some (tt, next i)) p h in
    let e : next i ≡ p.1 = ap (λ r. r.1) (some_inj g.1) in
    subst (λ j. Fronts (k.Sign o) i j) e (sees_says o i g.0)

pub expect_word_says : (o : Word) (i : List Token) (p : Unit {0} × List Token) → expect_word o i ≡ Some p → Fronts (k.Keyword o) i p.1
unfolding expect_word
expect_word_says o i p h =
    let g = guarded (sees_word o i) (Some (tt, next i)) p h in
    let e : next i ≡ p.1 = ap (λ r. r.1) (some_inj g.1) in
    subst (λ j. Fronts (k.Keyword o) i j) e (sees_word_says o i g.0)

-- a sign that is eaten if it comes next
pub eaten : {A : Type 0} (o : Sign) (f g : Parser A) (i : List Token) (p : A × List Token) → (cond (sees o i) f g) (after o i) ≡ Some p → (Fronts (k.Sign o) i (next i) × (f (next i) ≡ Some p)) ⊎ ((sees o i ≡ false) × (g i ≡ Some p))
unfolding after
eaten o f g i p h = elim (picked (sees o i) f g (next i) i p h) [ inl yes_ ↦ inl (sees_says o i yes_.0, yes_.1) | inr no_ ↦ inr no_ ]

name_by : (q : TokenKind) (i : List Token) (p : List ℕ × List Token) → with_rest i (name_of q) ≡ Some p → (q ≡ k.Name p.0) × (i ≡ p.1)
name_by (k.Name x) i p h = (ap (λ r. k.Name r.0) (some_inj h), ap (λ r. r.1) (some_inj h))
name_by _ i p h = cc

pub name_says : (i : List Token) (p : List ℕ × List Token) → name i ≡ Some p → Fronts (k.Name p.0) i p.1
unfolding name
name_says [] p h = cc
name_says (t ∷ i) p h = let b = name_by t.kind i p h in record { token = t; cut = ap (λ j. t ∷ j) b.1; is = b.0 }

number_by : (q : TokenKind) (i : List Token) (p : ℤ × List Token) → with_rest i (number_of q) ≡ Some p → (q ≡ k.Number p.0) × (i ≡ p.1)
number_by (k.Number x) i p h = (ap (λ r. k.Number r.0) (some_inj h), ap (λ r. r.1) (some_inj h))
number_by _ i p h = cc

pub number_says : (i : List Token) (p : ℤ × List Token) → number i ≡ Some p → Fronts (k.Number p.0) i p.1
unfolding number
number_says [] p h = cc
number_says (t ∷ i) p h = let b = number_by t.kind i p h in record { token = t; cut = ap (λ j. t ∷ j) b.1; is = b.0 }

-- a name and `=`
pub keyword_says : (i j : List Token) (name_is : List ℕ) → sees_keyword i ≡ true → Fronts (k.Name name_is) i j → Fronts (k.Sign s.Equal) j (next j)
unfolding sees_keyword
keyword_says i j name_is h f =
    let b = both_true (is_name (mark i)) (sees s.Equal (next i)) h in
    sees_says s.Equal j (ap (sees s.Equal) (sym (ap next f.cut)) ∙ b.1)

pub tall_says : (d h : ℕ) (x : Expr) (i : List Token) (p : Found Expr × List Token) → tall d h x i ≡ Some p → (◌≡◌ {A = Option (Found Expr × List Token)} (Some (found x (h + 1), i)) (Some p)) × (h + 1 ≤ d)
unfolding tall
tall_says d h x i p e =
    let g = guarded (nat_lt h d) (Some (found x (h + 1), i)) p e in
    let b = ltb-true h d g.0 in
    (g.1, omega arith)

-- the tree that a node was made into, at the tokens behind it
pub node : {S : ℕ → Expr → List Token → Type 0} (d : ℕ) (i : List Token) (h : ℕ) (x : Expr) (j : List Token) (p : Found Expr × List Token) → tall d h x j ≡ Some p → (h + 1 ≤ d → Took S d i (found x (h + 1), j)) → Took S d i p
node d i h x j p e made = let t = tall_says d h x j p e in given (made t.1) t.0

-- ---- adjacent literals

or_else_says : {X : Type 0} (o : Option (List ℕ)) (f : List ℕ → X) (x r : X) → or_else o f x ≡ r → ((text : List ℕ) × (o ≡ Some text) × (f text ≡ r)) ⊎ ((o ≡ None) × (x ≡ r))
or_else_says (Some text) f x r h = inl (text, refl, h)
or_else_says None f x r h = inr (refl, h)

text_kind : (q : TokenKind) (text : List ℕ) → text_of q ≡ Some text → q ≡ k.Text text
text_kind (k.Text x) text h = ap k.Text (some_inj h)
text_kind _ text h = cc

pub record TookTexts (before : List ℕ) (i : List Token) (p : List ℕ × List Token) : Type 0 where
  pub used : List Token
  pub text : List ℕ
  pub cut : i ≡ used ++ p.1
  pub same : p.0 ≡ before ++ text
  pub spelled : ((used ≡ []) × (text ≡ [])) ⊎ Texts text used
  pub some : mark i ≡ m.Text → 0 < length used

text_some : (q : TokenKind) → text_of q ≡ None → mark_of q ≡ m.Text → ⊥
text_some (k.Text x) h e = cc
text_some _ h e = cc

pub texts_says : (before : List ℕ) (i : List Token) (p : List ℕ × List Token) → texts_from before i ≡ Some p → TookTexts before i p
unfolding texts_from
texts_says before [] p h = let same = some_inj h in record { used = []; text = []; cut = ap (λ r. r.1) same; same = sym (ap (λ r. r.0) same) ∙ sym (append-nil before); spelled = inl (refl, refl); some = λ e. cc }
texts_says before (t ∷ i) p h =
    elim (or_else_says (text_of t.kind) (λ text. texts_from (before ++ text) i) _ _ h) [
      | inl some ↦
          let is = text_kind t.kind some.0 some.1 in
          let others = texts_says (before ++ some.0) i p some.2 in
          record {
            used = t ∷ others.used;
            text = some.0 ++ others.text;
            cut = ap (λ j. t ∷ j) others.cut;
            same = others.same ∙ append_assoc before some.0 others.text;
            spelled = inr (elim others.spelled [
              | inl none ↦ rw (none.0, none.1, append-nil some.0) (Texts.last t is)
              | inr all ↦ Texts.more t is all
            ]);
            some = λ e. omega arith;
          }
      | inr none ↦ let same = some_inj none.1 in record { used = []; text = []; cut = ap (λ r. r.1) same; same = sym (ap (λ r. r.0) same) ∙ sym (append-nil before); spelled = inl (refl, refl); some = λ e. absurd (text_some t.kind none.0 e) }
    ]

-- ---- comparisons

pub record Compared (i : List Token) (p : Comparison × List Token) : Type 0 where
  pub used : List Token
  pub cut : i ≡ used ++ p.1
  pub is : Compares p.0 used

compared_one : (o : Comparison) (i : List Token) (p : Comparison × List Token) (q : TokenKind) → ◌≡◌ {A = Option (Comparison × List Token)} (Some (o, next i)) (Some p) → (f : Fronts q i (next i)) → Compares o (f.token ∷ []) → Compared i p
compared_one o i p q h f c = subst (λ r. Compared i r) (some_inj h) (record { used = f.token ∷ []; cut = f.cut; is = c })

comparator_is : (q : Mark) (i : List Token) (p : Comparison × List Token) → mark i ≡ q → comparator_by q i ≡ Some p → Compared i p
comparator_is (m.Sign s.Less) i p e h = let f = sign_front s.Less i e in compared_one cmp.Less i p _ h f (Compares.less f.token f.is)
comparator_is (m.Sign s.Greater) i p e h = let f = sign_front s.Greater i e in compared_one cmp.Greater i p _ h f (Compares.greater f.token f.is)
comparator_is (m.Sign s.LessEqual) i p e h = let f = sign_front s.LessEqual i e in compared_one cmp.LessEqual i p _ h f (Compares.less_equal f.token f.is)
comparator_is (m.Sign s.GreaterEqual) i p e h = let f = sign_front s.GreaterEqual i e in compared_one cmp.GreaterEqual i p _ h f (Compares.greater_equal f.token f.is)
comparator_is (m.Sign s.EqualEqual) i p e h = let f = sign_front s.EqualEqual i e in compared_one cmp.Equal i p _ h f (Compares.equal f.token f.is)
comparator_is (m.Sign s.NotEqual) i p e h = let f = sign_front s.NotEqual i e in compared_one cmp.NotEqual i p _ h f (Compares.not_equal f.token f.is)
comparator_is (m.Keyword w.In) i p e h = let f = word_front w.In i e in compared_one cmp.In i p _ h f (Compares.within f.token f.is)
comparator_is (m.Keyword w.Is) i p e h =
    let f = word_front w.Is i e in
    elim (chosen (sees_word w.Not (next i)) _ _ _ h) [
      | inl not ↦
          let g = sees_word_says w.Not (next i) not.0 in
          subst (λ q. Compared i q) (some_inj not.1) (record { used = f.token ∷ g.token ∷ []; cut = f.cut ∙ ap (λ l. f.token ∷ l) g.cut; is = Compares.is_not f.token g.token f.is g.is })
      | inr bare ↦ compared_one cmp.Is i p _ bare.1 f (Compares.is_one f.token f.is)
    ]
comparator_is (m.Keyword w.Not) i p e h =
    let f = word_front w.Not i e in
    let b = bind_some (expect_word w.In (next i)) _ p h in
    let g = expect_word_says w.In (next i) (b.0, b.1) b.2 in
    subst (λ q. Compared i q) (some_inj b.3) (record { used = f.token ∷ g.token ∷ []; cut = f.cut ∙ ap (λ l. f.token ∷ l) g.cut; is = Compares.not_within f.token g.token f.is g.is })
comparator_is _ i p e h = cc

pub comparator_says : (i : List Token) (p : Comparison × List Token) → comparator i ≡ Some p → Compared i p
unfolding comparator
comparator_says i p h = comparator_is (mark i) i p refl h
