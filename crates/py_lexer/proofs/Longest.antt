-- The piece at a place is the longest of its class.
use Rattle.std.proofs.Common.{◌≡◌, ℕ, ◌+◌, ◌≤◌, Bool, true, false, cond, ◌&&◌, nat_le, nat_lt, ◌==◌, List, [], ◌∷◌, take, drop, length, Option, Some, None, refl, arith}
use Rattle.std.specs.Str.{bytes_eq}
use Rattle.std.specs.List.{list_all}
use Rattle.std.proofs.lemmas.List.Sums.{prefix_len_passes, prefix_len_stops}
use Rattle.std.proofs.lemmas.Bool.Decides.{nat_tests}
use Rattle.std.proofs.lemmas.Slice.Eq.{bytes_eq-Decides}
use Rattle.py_ast.specs.declared.spelled.Sign.{Sign}
use Rattle.py_ast.specs.declared.spelled.Word.{Word}
use Rattle.py_ast.specs.declared.token.TokenKind.TheVariants as kind
use Rattle.py_ast.specs.Spelled.{sign_spelled, word_spelled, signs, words}
use Rattle.py_lexer.specs.declared.runs.Class.{Class}
use Rattle.py_lexer.specs.declared.runs.Class.TheVariants as class
use Rattle.py_lexer.specs.Characters.{belongs, begins, run_length}
use Rattle.py_lexer.specs.Words.{word_of, keyword_or_name, word_token, begins_word}
use Rattle.py_lexer.specs.Signs.{sign_of, sign_at}
use Rattle.py_lexer.specs.Numerals.{numeral, begins_numeral}
use Rattle.py_lexer.specs.Strings.{Part, is_quote, is_raw, literal}
use Rattle.py_lexer.specs.Pieces.{Found, bad, joint_at, word_by, literal_by, literal_found, word_at, numeral_by, numeral_at, sign_by, piece_at}
use Rattle.py_lexer.specs.Pieces as piece
use Rattle.py_lexer.specs.PhysicalLines.{line_end}
use Rattle.py_lexer.specs.declared.refusals.Fault.TheVariants as fault
use Rattle.py_lexer.specs.Laws.{IsRun, Every, Fits}

run : (class : Class) (text : List ℕ) → IsRun class (run_length class text) text
run class text = record {
  inside = λ k below. prefix_len_passes (belongs class) text k 0 below;
  stops = λ below. prefix_len_stops (belongs class) text 0 below;
}

-- ---- signs

-- longer ones first
descending : List Sign → Bool
descending [] = true
descending (s ∷ ss) = list_all (λ other. nat_le (length (sign_spelled other)) (length (sign_spelled s))) ss && descending ss

abbrev pub NoLonger : List ℕ → Sign → Sign → Type 0
NoLonger text sign other = begins text (sign_spelled other) ≡ true → length (sign_spelled other) ≤ length (sign_spelled sign)

both : (a b : Bool) → (a && b) ≡ true → (a ≡ true) × (b ≡ true)
both true b e = (refl, e)
both false b e = cc

at_most : (m n : ℕ) → nat_le m n ≡ true → m ≤ n
at_most m n e = grind (arith, nat_tests)

shorter : (text : List ℕ) (s : Sign) (ss : List Sign) → list_all (λ other. nat_le (length (sign_spelled other)) (length (sign_spelled s))) ss ≡ true → Every (NoLonger text s) ss
shorter text s [] e = tt
shorter text s (other ∷ ss) e =
    let p = both (nat_le (length (sign_spelled other)) (length (sign_spelled s))) (list_all (λ other. nat_le (length (sign_spelled other)) (length (sign_spelled s))) ss) e in
    (λ b. at_most (length (sign_spelled other)) (length (sign_spelled s)) p.0, shorter text s ss p.1)

pub record First (table : List Sign) (sign : Sign) (text : List ℕ) : Type 0 where
  pub front : begins text (sign_spelled sign) ≡ true
  pub longest : Every (NoLonger text sign) table

first_is_longest : (table : List Sign) (sign : Sign) (text : List ℕ) → descending table ≡ true → sign_of table text ≡ Some sign → First table sign text
unfolding descending
first_is_longest [] sign text d e = cc
first_is_longest (s ∷ ss) sign text d e = go (λ h. first_is_longest ss sign text p.1 h) (begins text (sign_spelled s)) refl e
  where
    p : (list_all (λ other. nat_le (length (sign_spelled other)) (length (sign_spelled s))) ss ≡ true) × (descending ss ≡ true)
    p = both (list_all (λ other. nat_le (length (sign_spelled other)) (length (sign_spelled s))) ss) (descending ss) d

    same : (t : Sign) → s ≡ t → begins text (sign_spelled s) ≡ true → First (s ∷ ss) t text
    same t e b = rw (← e) (record { front = b; longest = (λ _. omega arith, shorter text s ss p.0) })

    go : (sign_of ss text ≡ Some sign → First ss sign text) → (b : Bool) → begins text (sign_spelled s) ≡ b → cond b (Some s) (sign_of ss text) ≡ Some sign → First (s ∷ ss) sign text
    go more true is e = let same_sign : s ≡ sign = cc in same sign same_sign is
    go more false is e = let f = more e in record { front = f.front; longest = (λ b. cc, f.longest) }

signs_descend : descending signs ≡ true
unfolding descending
signs_descend = refl

fits_sign : (found : Option Sign) (text : List ℕ) → sign_at text ≡ found → Fits (sign_by found) text
fits_sign None text e = tt
fits_sign (Some sign) text e = let f = first_is_longest signs sign text signs_descend e in (record { front = f.front; longest = f.longest }, refl)

-- ---- words

word_is : (table : List Word) (word : List ℕ) (found : Word) → word_of table word ≡ Some found → word ≡ word_spelled found
word_is [] word found e = cc
word_is (w ∷ ws) word found e = go (λ h. word_is ws word found h) (bytes_eq word (word_spelled w)) refl e
  where
    go : (word_of ws word ≡ Some found → word ≡ word_spelled found) → (b : Bool) → bytes_eq word (word_spelled w) ≡ b → cond b (Some w) (word_of ws word) ≡ Some found → word ≡ word_spelled found
    go more true is e = let same : w ≡ found = cc in rw (← same) ((bytes_eq-Decides word (word_spelled w)).0 is)
    go more false is e = more e

fits_name : (b : Bool) (name : List ℕ) (text : List ℕ) → Fits (word_by (cond b None (Some (kind.Name name))) (run_length class.Word text)) text
fits_name true name text = tt
fits_name false name text = run class.Word text

fits_word : (found : Option Word) (text : List ℕ) → word_of words (take (run_length class.Word text) text) ≡ found
    → Fits (word_by (keyword_or_name found (take (run_length class.Word text) text)) (run_length class.Word text)) text
fits_word None text e = fits_name _ _ text
fits_word (Some w) text e = (run class.Word text, word_is words (take (run_length class.Word text) text) w e)

fits_plain : (text : List ℕ) → Fits (word_by (word_token (take (run_length class.Word text) text)) (run_length class.Word text)) text
unfolding word_token
fits_plain text = fits_word (word_of words (take (run_length class.Word text) text)) text refl

fits_literal : (prefix : ℕ) (found : Option Part) (text s : List ℕ) → Fits (literal_found prefix found s) text
fits_literal prefix None text s = tt
fits_literal prefix (Some p) text s = go p.refused
  where
    go : (refused : Option ℕ) → Fits (literal_by prefix refused p s) text
    go None = tt
    go (Some k) = tt

fits_numeral : (found : Option ℕ) (text : List ℕ) → Fits (numeral_by found (run_length class.Numeral text)) text
fits_numeral None text = tt
fits_numeral (Some v) text = run class.Numeral text

-- ---- pieces

pub record Fit (found : Found) (text : List ℕ) : Type 0 where
  pub fits : Fits found text

fit : (found : Found) (text : List ℕ) → Fits found text → Fit found text
fit found text f = record { fits = f }

either : (b : Bool) (x y : Found) (text : List ℕ) → Fit x text → Fit y text → Fit (cond b x y) text
either true x y text f g = f
either false x y text f g = g

fits_word_at : (text : List ℕ) → Fit (word_at text) text
unfolding word_at
fits_word_at text =
    let n : ℕ = run_length class.Word text in
    let raw : Found = literal_found n (literal true (drop n text)) (drop n text) in
    let plain : Found = word_by (word_token (take n text)) n in
    either (is_raw (take n text) (drop n text)) raw plain text (fit raw text (fits_literal n (literal true (drop n text)) text (drop n text))) (fit plain text (fits_plain text))

fits_numeral_at : (text : List ℕ) → Fit (numeral_at text) text
unfolding numeral_at
fits_numeral_at text = fit (numeral_by (numeral (take (run_length class.Numeral text) text)) (run_length class.Numeral text)) text (fits_numeral (numeral (take (run_length class.Numeral text) text)) text)

fits_joint : (s text : List ℕ) → Fit (joint_at s) text
unfolding joint_at
fits_joint s text = either (nat_lt 0 (line_end s)) (piece.Joint, line_end s + 1) (bad fault.Token) text (fit (piece.Joint, line_end s + 1) text tt) (fit (bad fault.Token) text tt)

fits_piece : (text : List ℕ) → Fit (piece_at text) text
unfolding piece_at
fits_piece [] = fit (bad fault.Token) [] tt
fits_piece (c ∷ s) = go (nat_lt 0 (line_end (c ∷ s))) (c == 35) (c == 92) (belongs class.Blank c) (begins_word c) (is_quote c) (begins_numeral c s)
  where
    go : (a b d e f g h : Bool) → Fit (cond a (piece.LineEnd, line_end (c ∷ s)) (cond b (piece.Comment, run_length class.Comment (c ∷ s)) (cond d (joint_at s)
        (cond e (piece.Blank (take (run_length class.Blank (c ∷ s)) (c ∷ s)), run_length class.Blank (c ∷ s)) (cond f (word_at (c ∷ s)) (cond g (literal_found 0 (literal false (c ∷ s)) (c ∷ s))
        (cond h (numeral_at (c ∷ s)) (sign_by (sign_at (c ∷ s)))))))))) (c ∷ s)
    go true b d e f g h = fit (piece.LineEnd, line_end (c ∷ s)) (c ∷ s) tt
    go false true d e f g h = fit (piece.Comment, run_length class.Comment (c ∷ s)) (c ∷ s) (run class.Comment (c ∷ s))
    go false false true e f g h = fits_joint s (c ∷ s)
    go false false false true f g h = fit (piece.Blank (take (run_length class.Blank (c ∷ s)) (c ∷ s)), run_length class.Blank (c ∷ s)) (c ∷ s) (run class.Blank (c ∷ s), refl)
    go false false false false true g h = fits_word_at (c ∷ s)
    go false false false false false true h = fit (literal_found 0 (literal false (c ∷ s)) (c ∷ s)) (c ∷ s) (fits_literal 0 (literal false (c ∷ s)) (c ∷ s) (c ∷ s))
    go false false false false false false true = fits_numeral_at (c ∷ s)
    go false false false false false false false = fit (sign_by (sign_at (c ∷ s))) (c ∷ s) (fits_sign (sign_at (c ∷ s)) (c ∷ s) refl)

pub fits : (text : List ℕ) → Fits (piece_at text) text
fits text = (fits_piece text).fits
