-- Steps of the parser of statements, taken apart.
use Rattle.std.proofs.Common.{◌≡◌, ◌⊎◌, ℕ, ◌+◌, ◌≤◌, Bool, true, false, cond, nat_lt, List, [], ◌∷◌, ◌++◌, Option, Some, refl, ap, ◌∙◌, sym, subst, arith, append_assoc, inl, inr}
use Rattle.std.proofs.lemmas.Bool.{ltb-true}
use Rattle.py_ast.specs.declared.token.Token.{Token}
use Rattle.py_ast.specs.declared.token.TokenKind.{TokenKind}
use Rattle.py_ast.specs.declared.token.TokenKind.TheVariants as k
use Rattle.py_ast.specs.declared.spelled.Sign.{Sign}
use Rattle.py_ast.specs.declared.stmt.Stmt.{Stmt}
use Rattle.py_grammar.specs.declared.found.Found.{Found}
use Rattle.py_grammar.specs.declared.role.Mark.{Mark}
use Rattle.py_grammar.specs.Levels.{mark, mark_of, next, line}
use Rattle.py_grammar.specs.Parse.{found, sees, after}
use Rattle.py_grammar.specs.Laws.{Took}
use Rattle.py_grammar.proofs.Apart.{Fronts, guarded, given, sees_says, some_inj}
use Rattle.py_grammar.proofs.Lists.{joined}
use Rattle.py_statements.specs.Words.{is_newline, is_indent, is_dedent}
use Rattle.py_statements.specs.Parse.{made, pass}

made_says : (d h : ℕ) (x : Stmt) (i : List Token) (p : Found Stmt × List Token) → made d h x i ≡ Some p → (◌≡◌ {A = Option (Found Stmt × List Token)} (Some (found x (h + 1), i)) (Some p)) × (h + 1 ≤ d)
unfolding made
made_says d h x i p e =
    let g = guarded (nat_lt h d) (Some (found x (h + 1), i)) p e in
    let b = ltb-true h d g.0 in
    (g.1, omega arith)

-- the tree that a statement was made into, at the tokens behind it
pub node : {S : ℕ → Stmt → List Token → Type 0} (d : ℕ) (i : List Token) (h : ℕ) (x : Stmt) (j : List Token) (p : Found Stmt × List Token) → made d h x j ≡ Some p → (h + 1 ≤ d → Took S d i (found x (h + 1), j)) → Took S d i p
node d i h x j p e made = let t = made_says d h x j p e in given (made t.1) t.0

-- a tree that has the line of its first token
pub lined : (S : ℕ → Stmt → List Token → Type 0) (i : List Token) (h n : ℕ) (ts : List Token) (x : ℕ → Stmt) → line i ≡ n → S h (x n) ts → S h (x (line i)) ts
lined S i h n ts x e t = subst (λ l. S h (x l) ts) (sym e) t

-- tokens behind others
pub behind : {i j : List Token} (xs ys l : List Token) → i ≡ xs ++ j → j ≡ ys ++ l → i ≡ (xs ++ ys) ++ l
behind xs ys l e f = e ∙ ap (λ r. xs ++ r) f ∙ sym (append_assoc xs ys l)

pub pass_says : (is : Mark → Bool) (i : List Token) (p : Unit {0} × List Token) → pass is i ≡ Some p → (is (mark i) ≡ true) × (next i ≡ p.1)
unfolding pass
pass_says is i p h =
    let g = guarded (is (mark i)) (Some (tt, next i)) p h in
    (g.0, ap (λ r. r.1) (some_inj g.1))

newline_kind : (q : TokenKind) → is_newline (mark_of q) ≡ true → q ≡ k.Newline
newline_kind k.Newline h = refl
newline_kind _ h = cc

indent_kind : (q : TokenKind) → is_indent (mark_of q) ≡ true → q ≡ k.Indent
indent_kind k.Indent h = refl
indent_kind _ h = cc

dedent_kind : (q : TokenKind) → is_dedent (mark_of q) ≡ true → q ≡ k.Dedent
dedent_kind k.Dedent h = refl
dedent_kind _ h = cc

pub newline_front : (i : List Token) → is_newline (mark i) ≡ true → Fronts k.Newline i (next i)
newline_front [] h = cc
newline_front (t ∷ i) h = record { token = t; cut = refl; is = newline_kind t.kind h }

indent_front : (i : List Token) → is_indent (mark i) ≡ true → Fronts k.Indent i (next i)
indent_front [] h = cc
indent_front (t ∷ i) h = record { token = t; cut = refl; is = indent_kind t.kind h }

dedent_front : (i : List Token) → is_dedent (mark i) ≡ true → Fronts k.Dedent i (next i)
dedent_front [] h = cc
dedent_front (t ∷ i) h = record { token = t; cut = refl; is = dedent_kind t.kind h }

pub newline_says : (i : List Token) (p : Unit {0} × List Token) → pass is_newline i ≡ Some p → Fronts k.Newline i p.1
newline_says i p h = let g = pass_says is_newline i p h in subst (λ j. Fronts k.Newline i j) g.1 (newline_front i g.0)

pub indent_says : (i : List Token) (p : Unit {0} × List Token) → pass is_indent i ≡ Some p → Fronts k.Indent i p.1
indent_says i p h = let g = pass_says is_indent i p h in subst (λ j. Fronts k.Indent i j) g.1 (indent_front i g.0)

pub dedent_says : (i : List Token) (p : Unit {0} × List Token) → pass is_dedent i ≡ Some p → Fronts k.Dedent i p.1
dedent_says i p h = let g = pass_says is_dedent i p h in subst (λ j. Fronts k.Dedent i j) g.1 (dedent_front i g.0)

split_by : {X : Type 0} (b : Bool) (f : Bool → List Token → X) (i j : List Token) (r : X) → f b (cond b i j) ≡ r → ((b ≡ true) × (f true i ≡ r)) ⊎ ((b ≡ false) × (f false j ≡ r))
split_by true f i j r h = inl (refl, h)
split_by false f i j r h = inr (refl, h)

-- a sign that is eaten if it comes next, where what follows is told
pub split : {X : Type 0} (o : Sign) (f : Bool → List Token → X) (i : List Token) (r : X) → f (sees o i) (after o i) ≡ r → (Fronts (k.Sign o) i (next i) × (f true (next i) ≡ r)) ⊎ ((sees o i ≡ false) × (f false i ≡ r))
unfolding after
split o f i r h = elim (split_by (sees o i) f (next i) i r h) [ inl yes_ ↦ inl (sees_says o i yes_.0, yes_.1) | inr no_ ↦ inr no_ ]

-- parts that were read behind others
pub record TookList {A : Type 0} (S : ℕ → List A → List Token → Type 0) (d : ℕ) (acc : Found (List A)) (i : List Token) (p : Found (List A) × List Token) : Type 0 where
  pub height : ℕ
  pub items : List A
  pub used : List Token
  pub cut : i ≡ used ++ p.1
  pub same : p.0 ≡ joined acc items height
  pub spelled : S height items used
  pub low : height ≤ d

pub listed : {A : Type 0} {S : ℕ → List A → List Token → Type 0} {d : ℕ} {acc : Found (List A)} {i : List Token} {q p : Found (List A) × List Token} → TookList S d acc i q → ◌≡◌ {A = Option (Found (List A) × List Token)} (Some q) (Some p) → TookList S d acc i p
listed {A} {S} {d} {acc} {i} t h = subst (λ r. TookList S d acc i r) (some_inj h) t

-- the whole list
pub whole : {A : Type 0} {S : ℕ → List A → List Token → Type 0} {d : ℕ} {i : List Token} {p : Found (List A) × List Token} → TookList S d (found [] 0) i p → Took S d i p
whole {A} {S} {d} {i} {p} t =
    let height : p.0.height ≡ t.height = ap (λ f. f.height) t.same ∙ omega arith in
    let tree : p.0.tree ≡ t.items = ap (λ f. f.tree) t.same in
    record {
      used = t.used;
      cut = t.cut;
      tree = subst (λ n. S n p.0.tree t.used) (sym height) (subst (λ x. S t.height x t.used) (sym tree) t.spelled);
      low = omega (arith, t.low);
    }
