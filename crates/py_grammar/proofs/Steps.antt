-- What the steps of the parser do on tokens that are known.
use Rattle.std.proofs.Common.{◌≡◌, ℕ, ℤ, zero, suc, ◌+◌, ◌-◌, max, ◌<◌, ◌≤◌, Bool, true, false, cond, List, [], ◌∷◌, ◌++◌, length, Option, Some, None, refl, ap, ◌∙◌, sym, subst, arith, append_assoc, length-append, append-nil, le_trans}
use Rattle.std.proofs.lemmas.Bool.{lt-ltb, le-ltb, le-leb}
use denote.Enum.Bare.{true_same}
use Rattle.py_ast.specs.contracts.spelled.Sign.{the_type as sign_type}
use Rattle.py_ast.specs.contracts.spelled.Word.{the_type as word_type}
use Rattle.py_ast.specs.declared.token.Token.{Token}
use Rattle.py_ast.specs.declared.token.TokenKind.{TokenKind}
use Rattle.py_ast.specs.declared.token.TokenKind.TheVariants as k
use Rattle.py_ast.specs.declared.spelled.Sign.{Sign}
use Rattle.py_ast.specs.declared.spelled.Word.{Word}
use Rattle.py_ast.specs.declared.expr.Expr.{Expr}
use Rattle.py_grammar.specs.declared.found.Found.{Found}
use Rattle.py_grammar.specs.declared.role.Mark.{Mark}
use Rattle.py_grammar.specs.declared.role.Mark.TheVariants as m
use Rattle.py_grammar.specs.declared.role.Role.{Role}
use Rattle.py_grammar.specs.Levels.{role, makes, wants, mark, mark_of, line, next}
use Rattle.py_grammar.specs.Grammar.{IsSign, IsWord}
use Rattle.py_grammar.specs.Parse.{Parser, and_then, sees, sees_word, after, expect, expect_word, name, name_of, number, number_of, with_rest, tall, found, is_sign, is_word, operated, operation, prefix, climb, level, parse}

pub sees_it : (t : Token) (s : Sign) (i : List Token) → IsSign t s → sees s (t ∷ i) ≡ true
unfolding sees
sees_it t s i h = ap (λ q. is_sign s (mark_of q)) h ∙ true_same sign_type s s refl

pub sees_word_it : (t : Token) (w : Word) (i : List Token) → IsWord t w → sees_word w (t ∷ i) ≡ true
unfolding sees_word
sees_word_it t w i h = ap (λ q. is_word w (mark_of q)) h ∙ true_same word_type w w refl

pub sees_by : (s : Sign) (i : List Token) (b : Bool) → is_sign s (mark i) ≡ b → sees s i ≡ b
unfolding sees
sees_by s i b h = h

pub sees_word_by : (w : Word) (i : List Token) (b : Bool) → is_word w (mark i) ≡ b → sees_word w i ≡ b
unfolding sees_word
sees_word_by w i b h = h

pub expects : (t : Token) (s : Sign) (i : List Token) → IsSign t s → expect s (t ∷ i) ≡ Some (tt, i)
unfolding expect
expects t s i h = ap (λ b. cond b (Some (tt, i)) None) (sees_it t s i h)

pub expects_word : (t : Token) (w : Word) (i : List Token) → IsWord t w → expect_word w (t ∷ i) ≡ Some (tt, i)
unfolding expect_word
expects_word t w i h = ap (λ b. cond b (Some (tt, i)) None) (sees_word_it t w i h)

pub after_it : (t : Token) (s : Sign) (i : List Token) → IsSign t s → after s (t ∷ i) ≡ i
unfolding after
after_it t s i h = ap (λ b. cond b i (t ∷ i)) (sees_it t s i h)

pub after_none : (s : Sign) (i : List Token) → sees s i ≡ false → after s i ≡ i
unfolding after
after_none s i h = ap (λ b. cond b (next i) i) h

pub names : {text : List ℕ} (t : Token) (i : List Token) → t.kind ≡ k.Name text → name (t ∷ i) ≡ Some (text, i)
unfolding name
names t i h = ap (λ q. with_rest i (name_of q)) h

pub numbers : {value : ℤ} (t : Token) (i : List Token) → t.kind ≡ k.Number value → number (t ∷ i) ≡ Some (value, i)
unfolding number
numbers t i h = ap (λ q. with_rest i (number_of q)) h

pub tall_enough : (d h : ℕ) (x : Expr) (i : List Token) → h + 1 ≤ d → tall d h x i ≡ Some (found x (h + 1), i)
unfolding tall
tall_enough d h x i low = let b : h < d = omega arith in ap (λ b. cond b (Some (found x (h + 1), i)) None) (lt-ltb h d b)

-- where no operation of this level or a tighter one follows, the climb ends
pub climb_ends : (again : ℕ → ℕ → Parser (Found Expr)) (n least d turns at : ℕ) (left : Found Expr) (i : List Token) → makes (role (mark i)) < least → climb again n least d turns at left i ≡ Some (left, i)
unfolding climb
climb_ends again n least d zero at left i ends = ap (λ b. cond b (Some (left, i)) None) (lt-ltb _ _ ends)
climb_ends again n least d (suc turns) at left i ends = rw (lt-ltb (makes (role (mark i))) least ends) refl

-- the tokens that were read lead the climb from its start to this tree
pub record Goes (n least d : ℕ) (x : Expr) (h : ℕ) (start rest : List Token) : Type 0 where
  pub turns : ℕ
  pub enough : d ≤ turns + h
  pub reads : level (parse n) n least d start ≡ climb (parse n) n least d turns (line start) (found x h) rest

climb_turns : (again : ℕ → ℕ → Parser (Found Expr)) (n least d turns at : ℕ) (left next : Found Expr) (i rest : List Token) → least ≤ makes (role (mark i))
    → operation again n at d left i ≡ Some (next, rest) → climb again n least d (suc turns) at left i ≡ climb again n least d turns at next rest
unfolding climb
climb_turns again n least d turns at left next i rest goes_on e = rw (le-ltb (makes (role (mark i))) least goes_on, e) refl

pub extend : (n least d : ℕ) (x y : Expr) (g h : ℕ) (start i rest : List Token) → Goes n least d x g start i → least ≤ makes (role (mark i))
    → operation (parse n) n (line start) d (found x g) i ≡ Some (found y h, rest) → g < h → h ≤ d → Goes n least d y h start rest
extend n least d x y g h start i rest goes goes_on e taller low =
    let some : goes.turns ≡ suc (goes.turns - 1) = omega (arith, goes.enough) in
    record {
      turns = goes.turns - 1;
      enough = omega (arith, goes.enough);
      reads = goes.reads ∙ ap (λ m. climb (parse n) n least d m (line start) (found x g) i) some ∙ climb_turns (parse n) n least d (goes.turns - 1) (line start) (found x g) (found y h) i rest goes_on e;
    }

pub begin : (n least d : ℕ) (x : Expr) (h : ℕ) (start rest : List Token) → prefix (parse n) n least d start ≡ Some (found x h, rest) → Goes n least d x h start rest
unfolding level
begin n least d x h start rest e = record { turns = d; enough = omega arith; reads = ap (λ o. and_then o (climb (parse n) n least d d (line start))) e }

-- a token behind what was read, by its role
pub postfix : (n least d : ℕ) (x y : Expr) (g h at : ℕ) (start i rest : List Token) (r : Role) → role (mark i) ≡ r → line start ≡ at → Goes n least d x g start i → least ≤ makes r
    → operated (parse n) n at d (found x g) r i ≡ Some (found y h, rest) → g < h → h ≤ d → Goes n least d y h start rest
unfolding operation
postfix n least d x y g h at start i rest r is same goes on e taller low =
    let m = ap makes is in
    extend n least d x y g h start i rest goes (omega (arith, m)) (ap (λ q. operated (parse n) n (line start) d (found x g) q i) is ∙ ap (λ l. operated (parse n) n l d (found x g) r i) same ∙ e) taller low
