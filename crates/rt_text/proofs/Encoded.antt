-- The bytes of characters in UTF-8.
use Rattle.std.proofs.Common.{◌≡◌, ℕ, suc, ◌+◌, ◌/◌, ◌%◌, ◌<◌, ◌≤◌, true, false, nat_lt, nat_le, List, [], ◌∷◌, ◌++◌, length, refl, ap, ◌∙◌, inl, inr, arith}
use Rattle.std.proofs.lemmas.Bool.{cases_lt}
use Rattle.std.proofs.lemmas.Bool.Decides.{nat_tests}
use Rattle.std.proofs.Math.Nat.{mod-lt}
use Rattle.std.specs.Char.{encode_utf8}
use Rattle.std.specs.Str.{encode_utf8_all}
use Rattle.nu_text.specs.Characters.{characters}

abbrev pub next : ℕ → ℕ
next bits = 128 + bits % 64

below : (m n : ℕ) → m < n → nat_lt m n ≡ true
below m n h = grind (arith, nat_tests)

above : (m n : ℕ) → n ≤ m → nat_lt m n ≡ false
above m n h = grind (arith, nat_tests)

-- one to four bytes

pub one_byte : (c : ℕ) → c < 128 → encode_utf8 c ≡ c ∷ []
unfolding encode_utf8
one_byte c h = rw (below c 128 h) refl

pub two_bytes : (c : ℕ) → 128 ≤ c → c < 2048 → encode_utf8 c ≡ (192 + c / 64) ∷ next c ∷ []
unfolding encode_utf8
two_bytes c g h = rw (above c 128 g, below c 2048 h) refl

pub three_bytes : (c : ℕ) → 2048 ≤ c → c < 65536 → encode_utf8 c ≡ (224 + c / 4096) ∷ next (c / 64) ∷ next c ∷ []
unfolding encode_utf8
three_bytes c g h = rw (above c 128 (omega arith), above c 2048 g, below c 65536 h) refl

pub four_bytes : (c : ℕ) → 65536 ≤ c → encode_utf8 c ≡ (240 + c / 262144) ∷ next (c / 4096) ∷ next (c / 64) ∷ next c ∷ []
unfolding encode_utf8
four_bytes c g = rw (above c 128 (omega arith), above c 2048 (omega arith), above c 65536 g) refl

pub data Size (c : ℕ) : Type 0 where
  One : c < 128 → Size c
  Two : 128 ≤ c → c < 2048 → Size c
  Three : 2048 ≤ c → c < 65536 → Size c
  Four : 65536 ≤ c → Size c

pub size_of : (c : ℕ) → Size c
size_of c =
    elim (cases_lt c 128) [
      | inl a ↦ One a
      | inr b ↦
          (elim (cases_lt c 2048) [
            | inl d ↦ Two b d
            | inr e ↦
                (elim (cases_lt c 65536) [
                  | inl f ↦ Three e f
                  | inr g ↦ Four g
                ])
          ])
    ]

-- counting: of the bytes of a character, the first alone counts

follows : (x : ℕ) (bytes : List ℕ) → characters (next x ∷ bytes) ≡ characters bytes
follows x bytes =
    let a : nat_lt (next x) 128 ≡ false = above (next x) 128 (omega arith) in
    let b : nat_le 192 (next x) ≡ false = grind (arith, nat_tests, mod-lt x {m = 64} (omega arith)) in
    rw (a, b) (omega arith)

leads : (x : ℕ) (bytes : List ℕ) → 192 ≤ x → characters (x ∷ bytes) ≡ suc (characters bytes)
leads x bytes h =
    let a : nat_lt x 128 ≡ false = above x 128 (omega arith) in
    let b : nat_le 192 x ≡ true = grind (arith, nat_tests) in
    rw (a, b) (omega arith)

plain : (x : ℕ) (bytes : List ℕ) → x < 128 → characters (x ∷ bytes) ≡ suc (characters bytes)
plain x bytes h = rw (below x 128 h) (omega arith)

counts : (c : ℕ) (bytes : List ℕ) → Size c → characters (encode_utf8 c ++ bytes) ≡ suc (characters bytes)
counts c bytes (One h) = rw (one_byte c h) (plain c bytes h)
counts c bytes (Two g h) = rw (two_bytes c g h) (leads (192 + c / 64) (next c ∷ bytes) (omega arith) ∙ ap suc (follows c bytes))
counts c bytes (Three g h) =
    rw (three_bytes c g h)
    (leads (224 + c / 4096) (next (c / 64) ∷ next c ∷ bytes) (omega arith) ∙ ap suc (follows (c / 64) (next c ∷ bytes) ∙ follows c bytes))
counts c bytes (Four g) =
    rw (four_bytes c g)
    (leads (240 + c / 262144) (next (c / 4096) ∷ next (c / 64) ∷ next c ∷ bytes) (omega arith)
    ∙ ap suc (follows (c / 4096) (next (c / 64) ∷ next c ∷ bytes) ∙ follows (c / 64) (next c ∷ bytes) ∙ follows c bytes))

pub all_counted : (cs : List ℕ) → characters (encode_utf8_all cs) ≡ length cs
all_counted [] = refl
all_counted (c ∷ cs) = counts c (encode_utf8_all cs) (size_of c) ∙ ap suc (all_counted cs)
