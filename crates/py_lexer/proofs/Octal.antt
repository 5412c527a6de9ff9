-- Octal digits in escapes, from the front.
use Rattle.std.proofs.Common.{◌≡◌, ℕ, zero, suc, ◌+◌, ◌*◌, ◌<◌, ◌^◌, Bool, true, false, cond, List, [], ◌∷◌, length, take, refl, ap, arith}
use Rattle.std.specs.Char.{digit_value}
use Rattle.py_lexer.specs.Numerals.{is_digit}
use Rattle.py_lexer.specs.Strings.{all_digits, number, octal_run}
use Rattle.py_lexer.specs.Seen.{StartsWith}
use Rattle.py_lexer.proofs.Digits.{digit_is}

one : (n : ℕ) → 1 + n ≡ suc n
one n = omega arith

run_step : (c : ℕ) (s : List ℕ) → is_digit 8 c ≡ true → (take (octal_run (c ∷ s)) (c ∷ s) ≡ c ∷ take (octal_run s) s) × (octal_run (c ∷ s) ≡ 1 + octal_run s)
run_step c s is = go (is_digit 8 c) is
  where
    go : (b : Bool) → b ≡ true → (take (cond b (1 + octal_run s) 0) (c ∷ s) ≡ c ∷ take (octal_run s) s) × (cond b (1 + octal_run s) 0 ≡ 1 + octal_run s)
    go true e = (rw (one (octal_run s)) refl, refl)
    go false e = cc

pub octal_step : (n d : ℕ) (rest s : List ℕ) → StartsWith d rest s
    → (number 8 n (take (octal_run s) s) ≡ number 8 (n * 8 + d) (take (octal_run rest) rest)) × (octal_run s ≡ 1 + octal_run rest) × (length s ≡ 1 + length rest) × (d < 8)
octal_step n d rest [] h = absurd h
octal_step n d rest (c ∷ s) h =
    let low : digit_value c < 8 = rw h.0 h.1 in
    let r = run_step c s (digit_is 8 c low) in
    rw (h.2, ← h.0) (ap (number 8 n) r.0, r.1, more (length s), low)
  where
    more : (n : ℕ) → suc n ≡ 1 + n
    more n = omega arith

pub octal_below : (k n d : ℕ) → k < 3 → n < 8 ^ k → d < 8 → (n * 8 + d < 8 ^ (k + 1)) × (n < 64)
octal_below zero n d h under e = (omega arith, omega arith)
octal_below (suc zero) n d h under e = (omega arith, omega arith)
octal_below (suc (suc zero)) n d h under e = (omega arith, omega arith)
octal_below (suc (suc (suc k))) n d h under e = absurd (omega arith)

pub octal_read : (n : ℕ) (s : List ℕ) → octal_run s ≡ 0 → number 8 n (take (octal_run s) s) ≡ n
octal_read n s e = ap (λ k. number 8 n (take k s)) e

-- the run in a text's front is a front of the text
pub octal_front : (k : ℕ) (s : List ℕ) → take (octal_run (take k s)) (take k s) ≡ take (octal_run (take k s)) s
octal_front zero s = refl
octal_front (suc k) [] = refl
octal_front (suc k) (c ∷ s) = go (is_digit 8 c) (octal_front k s)
  where
    go : (b : Bool) → take (octal_run (take k s)) (take k s) ≡ take (octal_run (take k s)) s → take (cond b (1 + octal_run (take k s)) 0) (c ∷ take k s) ≡ take (cond b (1 + octal_run (take k s)) 0) (c ∷ s)
    go true h = rw (one (octal_run (take k s))) (ap (λ t. c ∷ t) h)
    go false h = refl

pub octal_digits : (k : ℕ) (s : List ℕ) → all_digits 8 (take (octal_run (take k s)) s) ≡ true
octal_digits zero s = refl
octal_digits (suc k) [] = refl
octal_digits (suc k) (c ∷ s) = go (is_digit 8 c) refl (octal_digits k s)
  where
    go : (b : Bool) → is_digit 8 c ≡ b → all_digits 8 (take (octal_run (take k s)) s) ≡ true → all_digits 8 (take (cond b (1 + octal_run (take k s)) 0) (c ∷ s)) ≡ true
    go true is h = rw (one (octal_run (take k s)), is) h
    go false is h = refl
