-- Line ends of a text that is read from the front.
use Rattle.std.proofs.Common.{◌≡◌, ℕ, zero, suc, ◌+◌, ◌≤◌, ◌==◌, nat_lt, Bool, true, false, not, cond, ◌&&◌, ◌||◌, List, [], ◌∷◌, length, take, drop, Some, slice_index, refl, sym, ◌∙◌, arith, lit<, add-zero, zero-add, rules}
use Rattle.std.specs.List.{list_all, prefix_len}
use Rattle.std.proofs.Math.Seq.{take-nil}
use Rattle.std.proofs.lemmas.List.{length-take, length-take-le}
use Rattle.std.proofs.lemmas.List.Sums.{prefix_len-le-length}
use Rattle.std.proofs.lemmas.Bool.Decides.{nat_tests}
use Rattle.std.proofs.lemmas.Slice.Eq.{bytes_eq-Decides}
use Rattle.unicode_ident.proofs.IdentLemmas.{is_xid_continue-ascii}
use Rattle.py_ast.specs.declared.spelled.Sign.{Sign}
use Rattle.py_ast.specs.declared.spelled.Sign.TheVariants as sign
use Rattle.py_ast.specs.Spelled.{sign_spelled}
use Rattle.py_lexer.specs.declared.runs.Class.{Class}
use Rattle.py_lexer.specs.declared.runs.Class.TheVariants as class
use Rattle.py_lexer.specs.Characters.{belongs, run_length, begins}
use Rattle.py_lexer.specs.PhysicalLines.{line_end, line_ends}
use Rattle.py_lexer.specs.Signs.{sign_of}

-- a character that is in no line end
abbrev pub plain : ℕ → Bool
plain c = belongs class.Comment c

abbrev pub all_plain : List ℕ → Bool
all_plain s = list_all plain s

pub both : (a b : Bool) → (a && b) ≡ true → (a ≡ true) × (b ≡ true)
both true b e = (refl, e)
both false b e = cc

pub is_equal : (x n : ℕ) → (x == n) ≡ true → x ≡ n
is_equal x n h = grind (arith, nat_tests)

-- what holds of neither CR nor LF holds of plain characters alone
pub is_plain : (p : ℕ → Bool) → p 10 ≡ false → p 13 ≡ false → (c : ℕ) → p c ≡ true → plain c ≡ true
is_plain p lf cr c h = go (c == 10) refl (c == 13) refl
  where
    apart : (n : ℕ) → p n ≡ false → c ≡ n → ⊥
    apart n e same = let is : p n ≡ true = rw (← same) h in cc

    go : (a : Bool) → (c == 10) ≡ a → (b : Bool) → (c == 13) ≡ b → not (a || b) ≡ true
    go false x false y = refl
    go true x b y = absurd (apart 10 lf (is_equal c 10 x))
    go false x true y = absurd (apart 13 cr (is_equal c 13 y))

pub all_are_plain : (p : ℕ → Bool) → p 10 ≡ false → p 13 ≡ false → (s : List ℕ) → list_all p s ≡ true → all_plain s ≡ true
all_are_plain p lf cr [] h = refl
all_are_plain p lf cr (c ∷ s) h = let e = both (p c) (list_all p s) h in rw (is_plain p lf cr c e.0) (all_are_plain p lf cr s e.1)

pub plain_first : (c : ℕ) (s : List ℕ) → plain c ≡ true → line_ends (c ∷ s) ≡ line_ends s
plain_first c s h = go (c == 10) (c == 13) h
  where
    go : (a b : Bool) → not (a || b) ≡ true → cond (a || (b && not (slice_index s 0 == 10))) (line_ends s + 1) (line_ends s) ≡ line_ends s
    go false false e = refl
    go true b e = cc
    go false true e = cc

pub plain_none : (s : List ℕ) → all_plain s ≡ true → 0 ≡ line_ends s
plain_none [] h = refl
plain_none (c ∷ s) h = let e = both (plain c) (all_plain s) h in plain_none s e.1 ∙ sym (plain_first c s e.0)

-- plain characters at the front
pub plain_pass : (n : ℕ) (s : List ℕ) → all_plain (take n s) ≡ true → line_ends s ≡ line_ends (drop n s)
plain_pass zero s h = refl
plain_pass (suc n) [] h = refl
plain_pass (suc n) (c ∷ s) h = let e = both (plain c) (all_plain (take n s)) h in plain_first c s e.0 ∙ plain_pass n s e.1

pub plain_front : (n m : ℕ) (s : List ℕ) → all_plain (take n s) ≡ true → line_ends (take (n + m) s) ≡ line_ends (take m (drop n s))
plain_front zero m s h = rw (zero-add m) refl
plain_front (suc n) m [] h = rw (take-nil {A = ℕ} (suc n + m), take-nil {A = ℕ} m) refl
plain_front (suc n) m (c ∷ s) h =
    let e = both (plain c) (all_plain (take n s)) h in
    rw (more n m) (plain_first c (take (n + m) s) e.0 ∙ plain_front n m s e.1)
  where
    more : (n m : ℕ) → suc n + m ≡ suc (n + m)
    more n m = omega arith

pub run_all : (p : ℕ → Bool) (k : ℕ) (s : List ℕ) → list_all p (take (prefix_len p (take k s)) s) ≡ true
run_all p zero s = refl
run_all p (suc k) [] = refl
run_all p (suc k) (c ∷ s) = go (p c) refl (run_all p k s)
  where
    one : (n : ℕ) → 1 + n ≡ suc n
    one n = omega arith

    go : (b : Bool) → p c ≡ b → list_all p (take (prefix_len p (take k s)) s) ≡ true → list_all p (take (cond b (1 + prefix_len p (take k s)) 0) (c ∷ s)) ≡ true
    go true is h = rw (one (prefix_len p (take k s)), is) h
    go false is h = refl

-- how many line ends a text has, at most
pub most : (s : List ℕ) → line_ends s ≤ length s
most [] = omega arith
most (c ∷ s) = go (c == 10 || (c == 13 && not (slice_index s 0 == 10))) (most s)
  where
    go : (b : Bool) → line_ends s ≤ length s → cond b (line_ends s + 1) (line_ends s) ≤ suc (length s)
    go true h = omega arith
    go false h = omega arith

pub most_front : (n : ℕ) (s : List ℕ) → line_ends (take n s) ≤ n
most_front n s = let a = most (take n s) in let b = length-take n s in omega (arith, a, b)

-- a text that is cut elsewhere than before LF
pub cut_ends : (n : ℕ) (s : List ℕ) → (slice_index (drop n s) 0 ≡ 10 → ⊥) → line_ends s ≡ line_ends (take n s) + line_ends (drop n s)
cut_ends zero s h = sym (zero-add (line_ends s))
cut_ends (suc n) [] h = refl
cut_ends (suc n) (c ∷ s) h = rw (next n s h) (go (c == 10 || (c == 13 && not (slice_index (take n s) 0 == 10))) (cut_ends n s h))
  where
    differs : (x : ℕ) → (x ≡ 10 → ⊥) → (x == 10) ≡ false
    differs x differ = grind (arith, nat_tests)

    next : (n : ℕ) (s : List ℕ) → (slice_index (drop n s) 0 ≡ 10 → ⊥) → (slice_index s 0 == 10) ≡ (slice_index (take n s) 0 == 10)
    next zero s h = differs (slice_index s 0) h
    next (suc n) [] h = refl
    next (suc n) (c ∷ s) h = refl

    go : (b : Bool) → line_ends s ≡ line_ends (take n s) + line_ends (drop n s) → cond b (line_ends s + 1) (line_ends s) ≡ cond b (line_ends (take n s) + 1) (line_ends (take n s)) + line_ends (drop n s)
    go true e = omega arith
    go false e = e

line_feed : (s : List ℕ) → (slice_index s 0 == 10) ≡ true → line_ends s ≡ 1 + line_ends (drop 1 s)
line_feed [] h = cc
line_feed (x ∷ t) h = rw h (turned (line_ends t))
  where
    turned : (n : ℕ) → n + 1 ≡ 1 + n
    turned n = omega arith

-- a line end at the front
pub end_first : (s : List ℕ) → nat_lt 0 (line_end s) ≡ true → line_ends s ≡ 1 + line_ends (drop (line_end s) s)
unfolding line_end
end_first [] h = cc
end_first (c ∷ s) h = go (c == 10) (c == 13) (slice_index s 0 == 10) refl h
  where
    turned : (n : ℕ) → n + 1 ≡ 1 + n
    turned n = omega arith

    go : (a b d : Bool) → (slice_index s 0 == 10) ≡ d → nat_lt 0 (cond a 1 (cond b (cond d 2 1) 0)) ≡ true
        → cond (a || (b && not d)) (line_ends s + 1) (line_ends s) ≡ 1 + line_ends (drop (cond a 1 (cond b (cond d 2 1) 0)) (c ∷ s))
    go true b d is h = turned (line_ends s)
    go false true false is h = turned (line_ends s)
    go false true true is h = line_feed s is
    go false false d is h = cc

pub end_front : (s : List ℕ) → nat_lt 0 (line_end s) ≡ true → 1 ≡ line_ends (take (line_end s) s)
unfolding line_end
end_front [] h = cc
end_front (c ∷ s) h = go (c == 10) refl (c == 13) refl (slice_index s 0 == 10) refl h
  where
    pair : (s : List ℕ) → (slice_index s 0 == 10) ≡ true → (c == 10) ≡ false → (c == 13) ≡ true → 1 ≡ line_ends (c ∷ take 1 s)
    pair [] is x y = cc
    pair (d ∷ s) is x y = rw (is, x, y) refl

    go : (a : Bool) → (c == 10) ≡ a → (b : Bool) → (c == 13) ≡ b → (d : Bool) → (slice_index s 0 == 10) ≡ d → nat_lt 0 (cond a 1 (cond b (cond d 2 1) 0)) ≡ true
        → 1 ≡ line_ends (take (cond a 1 (cond b (cond d 2 1) 0)) (c ∷ s))
    go true x b y d is h = rw x refl
    go false x true y false is h = rw (x, y) refl
    go false x true y true is h = pair s is x y
    go false x false y d is h = cc

pub no_end : (c : ℕ) (s : List ℕ) → nat_lt 0 (line_end (c ∷ s)) ≡ false → plain c ≡ true
unfolding line_end
no_end c s h = go (c == 10) (c == 13) (slice_index s 0 == 10) h
  where
    go : (a b d : Bool) → nat_lt 0 (cond a 1 (cond b (cond d 2 1) 0)) ≡ false → not (a || b) ≡ true
    go false false d h = refl
    go true b d h = cc
    go false true true h = cc
    go false true false h = cc

-- ---- runs and signs have none

pub run_size : (class : Class) (s : List ℕ) → length (take (run_length class s) s) ≡ run_length class s
run_size class s = length-take-le (run_length class s) s (prefix_len-le-length (belongs class) s)

pub run_front : (class : Class) (m : ℕ) (s : List ℕ) → belongs class 10 ≡ false → belongs class 13 ≡ false → line_ends (take (run_length class s + m) s) ≡ line_ends (take m (drop (run_length class s) s))
run_front class m s lf cr = plain_front (run_length class s) m s (all_are_plain (belongs class) lf cr (take (run_length class s) s) (whole s))
  where
    whole : (s : List ℕ) → list_all (belongs class) (take (prefix_len (belongs class) s) s) ≡ true
    whole [] = refl
    whole (c ∷ s) = go (belongs class c) refl (whole s)
      where
        one : (n : ℕ) → 1 + n ≡ suc n
        one n = omega arith

        go : (b : Bool) → belongs class c ≡ b → list_all (belongs class) (take (prefix_len (belongs class) s) s) ≡ true → list_all (belongs class) (take (cond b (1 + prefix_len (belongs class) s) 0) (c ∷ s)) ≡ true
        go true is h = rw (one (prefix_len (belongs class) s), is) h
        go false is h = refl

pub run_none : (class : Class) (s : List ℕ) → belongs class 10 ≡ false → belongs class 13 ≡ false → 0 ≡ line_ends (take (run_length class s) s)
run_none class s lf cr = sym (rw add-zero at (run_front class 0 s lf cr))

pub no_end_in_word : (belongs class.Word 10 ≡ false) × (belongs class.Word 13 ≡ false)
no_end_in_word = (rw (is_xid_continue-ascii 10 (lit< tt)) (search rules), rw (is_xid_continue-ascii 13 (lit< tt)) (search rules))

sign_is_plain : (s : Sign) → all_plain (sign_spelled s) ≡ true
sign_is_plain sign.LeftParen = refl
sign_is_plain _ = refl

pub sign_none : (table : List Sign) (text : List ℕ) (s : Sign) → sign_of table text ≡ Some s → 0 ≡ line_ends (take (length (sign_spelled s)) text)
sign_none [] text s e = cc
sign_none (t ∷ ts) text s e = go (λ h. sign_none ts text s h) (begins text (sign_spelled t)) refl e
  where
    here : (t : Sign) → begins text (sign_spelled t) ≡ true → 0 ≡ line_ends (take (length (sign_spelled t)) text)
    here t is = rw ((bytes_eq-Decides (take (length (sign_spelled t)) text) (sign_spelled t)).0 is) (plain_none (sign_spelled t) (sign_is_plain t))

    go : (sign_of ts text ≡ Some s → 0 ≡ line_ends (take (length (sign_spelled s)) text)) → (b : Bool) → begins text (sign_spelled t) ≡ b → cond b (Some t) (sign_of ts text) ≡ Some s → 0 ≡ line_ends (take (length (sign_spelled s)) text)
    go more true is e = let same : t ≡ s = cc in rw (← same) (here t is)
    go more false is e = more e
