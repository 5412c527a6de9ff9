-- The first line of bytes.
use Rattle.std.proofs.Common.{◌≡◌, ℕ, suc, ◌+◌, ◌-◌, ◌<◌, ◌≤◌, List, [], ◌∷◌, ◌++◌, Option, Some, None, Bool, true, false, refl, sym, ap, subst, ◌∙◌, arith, length, take, drop, append-nil, zero-add, get_or, drop-cons, add-one}
use Rattle.std.proofs.lemmas.List.{length-drop, reverse-append, reverse-reverse, take_all}
use Rattle.std.proofs.lemmas.Bool.{false_from_ne_true}
use Rattle.std.proofs.lemmas.Bool.Decides.{nat_tests}
use Rattle.std.proofs.lemmas.Str.{IsUtf8-from_is_utf8, is_utf8-from_IsUtf8}
use Rattle.std.specs.Prelude.{◌==◌, ◌||◌, ◌&&◌, not, if◌then◌else◌, nat_le, nat_lt, reverse}
use Rattle.std.specs.Str.{IsUtf8, is_utf8}
use Rattle.nu_calls.specs.Lines.{NoLine, ALine, BadLine, before_lf, behind_lf, checked_line, good_line, line_of, without_cr, without_first_cr}
use Rattle.c_input.specs.Lines.{has_lf, is_good, is_whole}

-- ---- CR

cut_cr : (b : ℕ) (xs : List ℕ) → without_cr (xs ++ b ∷ []) ≡ reverse (if b == 13 then reverse xs else b ∷ reverse xs)
cut_cr b xs = ap (λ l. reverse (without_first_cr l)) (reverse-append xs (b ∷ []))

pub without_last : (line xs : List ℕ) → line ≡ xs ++ 13 ∷ [] → without_cr line ≡ xs
without_last line xs h = ap without_cr h ∙ cut_cr 13 xs ∙ reverse-reverse xs

pub with_last : (line xs : List ℕ) (b : ℕ) → line ≡ xs ++ b ∷ [] → (b == 13) ≡ false → without_cr line ≡ line
with_last line xs b h e =
    ap without_cr h ∙ cut_cr b xs ∙ ap (λ t. reverse (if t then reverse xs else b ∷ reverse xs)) e ∙ ap reverse (sym (reverse-append xs (b ∷ []))) ∙ reverse-reverse (xs ++ b ∷ []) ∙ sym h

-- ---- LF

-- the bytes up to the first LF, and those behind it
abbrev Cut : List ℕ → Type 0
Cut xs = (take (length (before_lf xs)) xs ≡ before_lf xs) × (behind_lf xs ≡ (if nat_lt (length (before_lf xs)) (length xs) then Some (drop (suc (length (before_lf xs))) xs) else None))

less_suc : (a b : ℕ) → nat_lt (suc a) (suc b) ≡ nat_lt a b
less_suc a b = grind (arith, nat_tests)

pub cut_at : (xs : List ℕ) → Cut xs
cut_at [] = (refl, refl)
cut_at (x ∷ xs) = go (x == 10) (cut_at xs)
  where
    go : (t : Bool) → Cut xs → (take (length (if t then [] else x ∷ before_lf xs)) (x ∷ xs) ≡ (if t then [] else x ∷ before_lf xs))
        × ((if t then Some xs else behind_lf xs) ≡ (if nat_lt (length (if t then [] else x ∷ before_lf xs)) (suc (length xs)) then Some (drop (suc (length (if t then [] else x ∷ before_lf xs))) (x ∷ xs)) else None))
    go true cut = (refl, (let e : nat_lt 0 (suc (length xs)) ≡ true = grind (arith, nat_tests) in ap (λ b. if b then Some xs else None) (sym e)))
    go false cut = (
      ap (λ l. x ∷ l) cut.0,
      cut.1 ∙ ap (λ b. if b then Some (drop (suc (length (before_lf xs))) xs) else None) (sym (less_suc (length (before_lf xs)) (length xs))),
    )

-- with an LF, what follows is behind it
more_behind : (xs rest : List ℕ) → has_lf xs ≡ true → (before_lf (xs ++ rest) ≡ before_lf xs) × (behind_lf (xs ++ rest) ≡ Some (drop (suc (length (before_lf xs))) xs ++ rest))
more_behind [] rest h = absurd (let less : 0 < 0 = grind (arith, nat_tests, h) in omega (arith, less))
more_behind (x ∷ xs) rest h = go (x == 10) (λ e. more_behind xs rest (sym (less_suc (length (before_lf xs)) (length xs)) ∙ e)) h
  where
    go : (t : Bool) → (nat_lt (suc (length (before_lf xs))) (suc (length xs)) ≡ true → (before_lf (xs ++ rest) ≡ before_lf xs) × (behind_lf (xs ++ rest) ≡ Some (drop (suc (length (before_lf xs))) xs ++ rest)))
        → nat_lt (length (if t then [] else x ∷ before_lf xs)) (suc (length xs)) ≡ true
        → ((if t then [] else x ∷ before_lf (xs ++ rest)) ≡ (if t then [] else x ∷ before_lf xs))
        × ((if t then Some (xs ++ rest) else behind_lf (xs ++ rest)) ≡ Some (drop (suc (length (if t then [] else x ∷ before_lf xs))) (x ∷ xs) ++ rest))
    go true more h = (refl, refl)
    go false more h = let m = more h in (ap (λ l. x ∷ l) m.0, m.1)

-- without an LF, all that is there stands before the first
none_before : (xs rest : List ℕ) → has_lf xs ≡ false → length (before_lf (xs ++ rest)) ≡ length xs + length (before_lf rest)
none_before [] rest h = sym (zero-add (length (before_lf rest)))
none_before (x ∷ xs) rest h = go (x == 10) (λ e. none_before xs rest (sym (less_suc (length (before_lf xs)) (length xs)) ∙ e)) h
  where
    go : (t : Bool) → (nat_lt (suc (length (before_lf xs))) (suc (length xs)) ≡ false → length (before_lf (xs ++ rest)) ≡ length xs + length (before_lf rest))
        → nat_lt (length (if t then [] else x ∷ before_lf xs)) (suc (length xs)) ≡ false
        → length (if t then [] else x ∷ before_lf (xs ++ rest)) ≡ suc (length xs) + length (before_lf rest)
    go true more h = absurd (let le : suc (length xs) ≤ 0 = grind (arith, nat_tests, h) in omega (arith, le))
    go false more h = let e : suc (length xs) + length (before_lf rest) ≡ suc (length xs + length (before_lf rest)) = omega arith in ap suc (more h) ∙ sym e

length_before : (xs : List ℕ) → has_lf xs ≡ false → length (before_lf xs) ≡ length xs
length_before xs h = ap (λ l. length (before_lf l)) (sym (append-nil xs)) ∙ none_before xs [] h ∙ (let e : length xs + 0 ≡ length xs = omega arith in e)

checked_by : (line : List ℕ) (rest : Option (List ℕ)) (a b : Bool) → (not a && b) ≡ false → (if a then BadLine else (if b then good_line line rest else BadLine)) ≡ BadLine
checked_by line rest true b h = refl
checked_by line rest false true h = absurd (cc)
checked_by line rest false false h = refl

-- bytes that can't be a line
checked_bad : (line : List ℕ) (rest : Option (List ℕ)) → is_good line ≡ false → checked_line line rest ≡ BadLine
checked_bad line rest h = checked_by line rest (nat_le 1048576 (length line)) (is_utf8 line) h

too_long : (line : List ℕ) (rest : Option (List ℕ)) → 1048576 ≤ length line → checked_line line rest ≡ BadLine
too_long line rest h = let e : nat_le 1048576 (length line) ≡ true = grind (arith, nat_tests, h) in ap (λ b. if b then BadLine else (if is_utf8 line then good_line line rest else BadLine)) e

good_by : (line : List ℕ) (rest : Option (List ℕ)) (a b : Bool) → (not a && b) ≡ true → (if a then BadLine else (if b then good_line line rest else BadLine)) ≡ good_line line rest
good_by line rest true b h = absurd (cc)
good_by line rest false true h = refl
good_by line rest false false h = absurd (cc)

good : (line : List ℕ) (rest : Option (List ℕ)) → is_good line ≡ true → checked_line line rest ≡ good_line line rest
good line rest h = good_by line rest (nat_le 1048576 (length line)) (is_utf8 line) h

first_false : (a b : Bool) → (not a && b) ≡ true → a ≡ false
first_false true b h = absurd (cc)
first_false false b h = refl

short_of : (line : List ℕ) → is_good line ≡ true → length line < 1048576
short_of line h = let e : nat_le 1048576 (length line) ≡ false = first_false (nat_le 1048576 (length line)) (is_utf8 line) h in grind (arith, nat_tests, e)

line_is : (xs : List ℕ) → 0 < length xs → line_of xs ≡ checked_line (before_lf xs) (behind_lf xs)
line_is [] h = absurd (omega (arith, h))
line_is (x ∷ xs) h = refl

longer : (xs rest : List ℕ) → 0 < length xs → 0 < length (xs ++ rest)
longer [] rest h = absurd (omega (arith, h))
longer (x ∷ xs) rest h = omega arith

-- ---- the line at the front of a buffer

pub line_none : (left rest : List ℕ) → left ≡ [] → (is_whole left ≡ false → rest ≡ []) → line_of (left ++ rest) ≡ NoLine
line_none left rest e h = let none : rest ≡ [] = h (ap is_whole e) in ap (λ l. line_of (l ++ rest)) e ∙ ap line_of none

if_whole : (a b : Bool) → a ≡ false → (a || b) ≡ b
if_whole true b h = absurd (cc)
if_whole false b h = refl

-- what isn't whole has no LF, and nothing follows
pub line_long : (left rest : List ℕ) → 1048576 ≤ length (before_lf left) → 0 < length left → line_of (left ++ rest) ≡ BadLine
line_long left rest long some = go (has_lf left) refl
  where
    go : (b : Bool) → has_lf left ≡ b → line_of (left ++ rest) ≡ BadLine
    go true e =
        let more = more_behind left rest e in
        line_is (left ++ rest) (longer left rest some) ∙ too_long (before_lf (left ++ rest)) (behind_lf (left ++ rest)) (subst (λ l. 1048576 ≤ length l) (sym more.0) long)
    go false e =
        let all = none_before left rest e in
        let own = length_before left e in
        line_is (left ++ rest) (longer left rest some) ∙ too_long (before_lf (left ++ rest)) (behind_lf (left ++ rest)) (omega (arith, all, own, long))

-- the whole front has no LF, and is shorter than a line may be: nothing follows
alone : (left rest : List ℕ) → has_lf left ≡ false → length (before_lf left) < 1048576 → (is_whole left ≡ false → rest ≡ []) → rest ≡ []
alone left rest e short h =
    let own = length_before left e in
    let b : nat_le 1048576 (length left) ≡ false = grind (arith, nat_tests, own, short) in
    h (if_whole (nat_le 1048576 (length left)) (has_lf left) b ∙ e)

same_front : (left rest : List ℕ) → length (before_lf left) < 1048576 → (is_whole left ≡ false → rest ≡ []) → before_lf (left ++ rest) ≡ before_lf left
same_front left rest short h = go (has_lf left) refl
  where
    go : (b : Bool) → has_lf left ≡ b → before_lf (left ++ rest) ≡ before_lf left
    go true e = (more_behind left rest e).0
    go false e = ap (λ r. before_lf (left ++ r)) (alone left rest e short h) ∙ ap before_lf (append-nil left)

pub line_bad : (left rest : List ℕ) → is_good (before_lf left) ≡ false → 0 < length left → (is_whole left ≡ false → rest ≡ []) → line_of (left ++ rest) ≡ BadLine
line_bad left rest bad some h = go (nat_le 1048576 (length (before_lf left))) refl
  where
    go : (b : Bool) → nat_le 1048576 (length (before_lf left)) ≡ b → line_of (left ++ rest) ≡ BadLine
    go true e = line_long left rest (grind (arith, nat_tests, e)) some
    go false e =
        let short : length (before_lf left) < 1048576 = grind (arith, nat_tests, e) in
        line_is (left ++ rest) (longer left rest some) ∙ checked_bad (before_lf (left ++ rest)) (behind_lf (left ++ rest)) (ap is_good (same_front left rest short h) ∙ bad)

-- the last line, without an LF
pub line_last : (left rest : List ℕ) → is_good (before_lf left) ≡ true → length (before_lf left) ≡ length left → 0 < length left → (is_whole left ≡ false → rest ≡ [])
    → line_of (left ++ rest) ≡ ALine (before_lf left) ([] ++ rest)
line_last left rest fine all some h =
    let e : has_lf left ≡ false = grind (arith, nat_tests, all) in
    let none = alone left rest e (short_of (before_lf left) fine) h in
    let back : behind_lf left ≡ None = (cut_at left).1 ∙ ap (λ b. if b then Some (drop (suc (length (before_lf left))) left) else None) e in
    ap (λ r. line_of (left ++ r)) none ∙ ap line_of (append-nil left) ∙ line_is left some ∙ good (before_lf left) (behind_lf left) fine ∙ ap (λ r. good_line (before_lf left) r) back ∙ ap (λ r. ALine (before_lf left) r) (sym none)

-- a line with an LF
pub line_first : (left rest : List ℕ) → is_good (before_lf left) ≡ true → length (before_lf left) < length left
    → line_of (left ++ rest) ≡ ALine (without_cr (before_lf left)) (drop (length (before_lf left) + 1) left ++ rest)
line_first left rest fine less =
    let e : has_lf left ≡ true = grind (arith, nat_tests, less) in
    let some : 0 < length left = omega (arith, less) in
    let more = more_behind left rest e in
    let one : suc (length (before_lf left)) ≡ length (before_lf left) + 1 = omega arith in
    line_is (left ++ rest) (longer left rest some) ∙ ap (λ l. checked_line l (behind_lf (left ++ rest))) more.0 ∙ good (before_lf left) (behind_lf (left ++ rest)) fine
    ∙ ap (λ r. good_line (before_lf left) r) more.1 ∙ ap (λ n. ALine (without_cr (before_lf left)) (drop n left ++ rest)) one

-- no more bytes stand before the first LF than there are
pub before_most : (xs : List ℕ) → length (before_lf xs) ≤ length xs
before_most [] = omega arith
before_most (x ∷ xs) = go (x == 10) (before_most xs)
  where
    go : (t : Bool) → length (before_lf xs) ≤ length xs → length (if t then [] else x ∷ before_lf xs) ≤ suc (length xs)
    go true h = omega arith
    go false h = omega (arith, h)

pub before_front : (xs : List ℕ) → take (length (before_lf xs)) xs ≡ before_lf xs
before_front xs = (cut_at xs).0

-- as far as the loop has come
pub before_on : (xs : List ℕ) (i : ℕ) → i < length xs → (get_or xs i 0 == 10) ≡ false → length (before_lf (drop i xs)) ≡ 1 + length (before_lf (drop (i + 1) xs))
before_on xs i h e = rw (add-one, drop-cons xs i 0) (ap (λ b. length (if b then [] else get_or xs i 0 ∷ before_lf (drop (suc i) xs))) e ∙ (let s : suc (length (before_lf (drop (suc i) xs))) ≡ 1 + length (before_lf (drop (suc i) xs)) = omega arith in s))

pub before_here : (xs : List ℕ) (i : ℕ) → i < length xs → (get_or xs i 0 == 10) ≡ true → length (before_lf (drop i xs)) ≡ 0
before_here xs i h e = rw (drop-cons xs i 0) (ap (λ b. length (if b then [] else get_or xs i 0 ∷ before_lf (drop (suc i) xs))) e)

pub good_is : (line : List ℕ) → length line < 1048576 → IsUtf8 line → is_good line ≡ true
good_is line short u =
    let e : nat_le 1048576 (length line) ≡ false = grind (arith, nat_tests, short) in
    ap (λ b. not b && is_utf8 line) e ∙ is_utf8-from_IsUtf8 line u

both_false : (a b : Bool) → b ≡ false → (a && b) ≡ false
both_false true b h = h
both_false false b h = refl

pub odd_is : (line : List ℕ) → (IsUtf8 line → ⊥) → is_good line ≡ false
odd_is line h = both_false (not (nat_le 1048576 (length line))) (is_utf8 line) (false_from_ne_true (is_utf8 line) (λ e. h (IsUtf8-from_is_utf8 line e)))

cut_behind : (xs : List ℕ) (n : ℕ) → take (length xs - n) (drop n xs) ≡ drop n xs
cut_behind xs n = let e : length (drop n xs) ≡ length xs - n = length-drop n xs in take_all (length xs - n) (drop n xs) (omega (arith, e))

-- the bytes behind the first LF, as they are cut out
pub behind_is : (left bytes first out : List ℕ) → bytes ≡ left → first ≡ before_lf left → out ≡ take (length bytes - (length first + 1)) (drop (length first + 1) bytes) → out ≡ drop (length (before_lf left) + 1) left
behind_is left bytes first out e f h =
    h ∙ ap (λ l. take (length l - (length first + 1)) (drop (length first + 1) l)) e ∙ cut_behind left (length first + 1) ∙ ap (λ l. drop (length l + 1) left) f
