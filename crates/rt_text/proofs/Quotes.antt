-- Characters between quotation marks, byte by byte.
use Rattle.std.proofs.Common.{◌≡◌, ℕ, ◌+◌, ◌/◌, ◌<◌, ◌≤◌, true, false, List, [], ◌∷◌, ◌++◌, refl, ap, ◌∙◌, arith, inl, inr}
use Rattle.std.proofs.lemmas.Bool.Decides.{nat_tests}
use Rattle.std.specs.Prelude.{nat_eq, nat_lt}
use Rattle.std.specs.Char.{encode_utf8}
use Rattle.std.specs.List.{flat_map}
use Rattle.op_rules.specs.Quoting.{quoted_byte}
use Rattle.rt_text.specs.Quoted.{IsMark, quoted_char}
use Rattle.rt_text.proofs.Encoded.{next, Size, One, Two, Three, Four, size_of, one_byte, two_bytes, three_bytes, four_bytes}

other : (b n : ℕ) → 128 ≤ b → n < 128 → nat_eq b n ≡ false
other b n h g = grind (arith, nat_tests)

under : (b : ℕ) → 128 ≤ b → nat_lt b 32 ≡ false
under b h = grind (arith, nat_tests)

mark_small : (mark : ℕ) → IsMark mark → mark < 128
mark_small mark (inl e) = omega (arith, e)
mark_small mark (inr e) = omega (arith, e)

-- a backslash and a mark stand behind a backslash
pub escaped_backslash : (mark c : ℕ) → c ≡ 92 → quoted_char mark c ≡ 92 ∷ encode_utf8 c
escaped_backslash mark c e = rw (e, one_byte 92 (omega arith)) refl

pub escaped_mark : (mark c : ℕ) → IsMark mark → c ≡ mark → quoted_char mark c ≡ 92 ∷ encode_utf8 c
escaped_mark mark c (inl m) e = rw (e, m, one_byte 39 (omega arith)) refl
escaped_mark mark c (inr m) e = rw (e, m, one_byte 34 (omega arith)) refl

-- a byte past ASCII stands as itself
plain_byte : (mark b : ℕ) → IsMark mark → 128 ≤ b → quoted_byte mark b ≡ b ∷ []
plain_byte mark b m h =
    rw (other b 92 h (omega arith), other b mark h (mark_small mark m), other b 10 h (omega arith), other b 13 h (omega arith), other b 9 h (omega arith), under b h, other b 127 h (omega arith)) refl

-- a byte, and more
before : (mark b : ℕ) (bs : List ℕ) → IsMark mark → 128 ≤ b → flat_map (quoted_byte mark) (b ∷ bs) ≡ b ∷ flat_map (quoted_byte mark) bs
before mark b bs m h = ap (λ l. l ++ flat_map (quoted_byte mark) bs) (plain_byte mark b m h)

shown : (mark c : ℕ) (rest : List ℕ) → IsMark mark → Size c → flat_map (quoted_byte mark) (encode_utf8 c ++ rest) ≡ quoted_char mark c ++ flat_map (quoted_byte mark) rest
shown mark c rest m (One h) =
    let ascii : nat_lt c 128 ≡ true = grind (arith, nat_tests) in
    rw (one_byte c h, ascii) refl
shown mark c rest m (Two g h) =
    let beyond : nat_lt c 128 ≡ false = grind (arith, nat_tests) in
    rw (two_bytes c g h, beyond)
    (before mark (192 + c / 64) (next c ∷ rest) m (omega arith) ∙ ap (λ l. (192 + c / 64) ∷ l) (before mark (next c) rest m (omega arith)))
shown mark c rest m (Three g h) =
    let beyond : nat_lt c 128 ≡ false = grind (arith, nat_tests) in
    rw (three_bytes c g h, beyond)
    (before mark (224 + c / 4096) (next (c / 64) ∷ next c ∷ rest) m (omega arith)
    ∙ ap (λ l. (224 + c / 4096) ∷ l) (before mark (next (c / 64)) (next c ∷ rest) m (omega arith) ∙ ap (λ l. next (c / 64) ∷ l) (before mark (next c) rest m (omega arith))))
shown mark c rest m (Four g) =
    let beyond : nat_lt c 128 ≡ false = grind (arith, nat_tests) in
    rw (four_bytes c g, beyond)
    (before mark (240 + c / 262144) (next (c / 4096) ∷ next (c / 64) ∷ next c ∷ rest) m (omega arith)
    ∙ ap (λ l. (240 + c / 262144) ∷ l)
    (before mark (next (c / 4096)) (next (c / 64) ∷ next c ∷ rest) m (omega arith)
    ∙ ap (λ l. next (c / 4096) ∷ l) (before mark (next (c / 64)) (next c ∷ rest) m (omega arith) ∙ ap (λ l. next (c / 64) ∷ l) (before mark (next c) rest m (omega arith)))))

pub quoted_first : (mark c : ℕ) (text rest : List ℕ) → IsMark mark → text ≡ encode_utf8 c ++ rest → flat_map (quoted_byte mark) text ≡ quoted_char mark c ++ flat_map (quoted_byte mark) rest
quoted_first mark c text rest m e = ap (flat_map (quoted_byte mark)) e ∙ shown mark c rest m (size_of c)
