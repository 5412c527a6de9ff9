-- Texts of ASCII characters.
use Rattle.std.proofs.Common.{◌≡◌, ℕ, zero, suc, ◌<◌, ◌≤◌, Bool, true, false, List, [], ◌∷◌, ◌++◌, length, get_or, refl, sym, ap, ◌∙◌, arith}
use Rattle.std.proofs.lemmas.Bool.Decides.{nat_tests}
use Rattle.std.proofs.lemmas.List.{length-append}
use Rattle.std.proofs.lemmas.Str.{chars-nil, chars_from_encodes, length-le-encodes}
use Rattle.std.proofs.lemmas.Option.{slice_get_past}
use Rattle.std.specs.Prelude.{Some, None, slice_get, nat_lt, ◌==◌, ◌&&◌, slice_index, MatchBool, IsUtf8, IsAscii, encode_utf8_all}
use Rattle.std.specs.Str.{IsNotAscii, chars}
use Rattle.std.specs.Char.{encode_utf8}
use Rattle.nu_text.specs.Characters.{characters}
use Rattle.op_rules.specs.Numerals.{number_of_one, no_character}
use Rattle.op_rules.specs.TextParts.{is_ascii}
use Rattle.rt_text.proofs.Encoded.{Size, One, Two, Three, Four, size_of, one_byte, two_bytes, three_bytes, four_bytes, all_counted}

-- ---- the test

below : (b : ℕ) → b < 128 → nat_lt b 128 ≡ true
below b h = grind (arith, nat_tests)

above : (b : ℕ) → 128 ≤ b → nat_lt b 128 ≡ false
above b h = grind (arith, nat_tests)

and_false : (b : Bool) → (b && false) ≡ false
and_false true = refl
and_false false = refl

ascii_all : (bs : List ℕ) → IsAscii bs → is_ascii bs ≡ true
ascii_all [] h = refl
ascii_all (b ∷ bs) h = ap (λ x. x && is_ascii bs) (below b (h 0)) ∙ ascii_all bs (λ i. h (suc i))

ascii_not : (bs : List ℕ) (i : ℕ) → 128 ≤ slice_index bs i → is_ascii bs ≡ false
ascii_not [] i h = absurd (omega (arith, h))
ascii_not (b ∷ bs) zero h = ap (λ x. x && is_ascii bs) (above b h)
ascii_not (b ∷ bs) (suc i) h = ap (λ x. nat_lt b 128 && x) (ascii_not bs i h) ∙ and_false (nat_lt b 128)

pub ascii_test : (r : Bool) (bs : List ℕ) → MatchBool r (IsAscii bs) (IsNotAscii bs) → r ≡ is_ascii bs
ascii_test true bs h = sym (ascii_all bs h)
ascii_test false bs h = sym (ascii_not bs h.0 h.1)

pub ascii_true : (r : Bool) (bs : List ℕ) → MatchBool r (IsAscii bs) (IsNotAscii bs) → r ≡ true → IsAscii bs
ascii_true true bs h e = h
ascii_true false bs h e = absurd (cc)

-- ---- an empty text, and another

pub no_chars : (text : List ℕ) → text ≡ [] → chars text ≡ []
no_chars text e = ap chars e ∙ chars-nil

pub empty_chars : (text : List ℕ) → (length text == 0) ≡ true → chars text ≡ []
empty_chars [] h = chars-nil
empty_chars (b ∷ bs) h = absurd (grind (arith, nat_tests))

pub two_chars : (c : ℕ) (text cs : List ℕ) → encode_utf8_all cs ≡ text → (length text == 0) ≡ false → number_of_one (c ∷ cs) ≡ no_character
two_chars c text [] e h = let same : (length {A = ℕ} [] == 0) ≡ false = ap (λ l. length l == 0) e ∙ h in absurd (cc)
two_chars c text (d ∷ ds) e h = refl

-- ---- a text with as many bytes as characters

longer : (c : ℕ) (cs : List ℕ) → Size c → length (encode_utf8 c ++ encode_utf8_all cs) ≡ suc (length cs) → encode_utf8_all cs ≡ cs → encode_utf8 c ++ encode_utf8_all cs ≡ c ∷ cs
longer c cs (One h) e same = ap (λ l. l ++ encode_utf8_all cs) (one_byte c h) ∙ ap (λ l. c ∷ l) same
longer c cs (Two g h) e same =
    let sizes : suc (suc (length (encode_utf8_all cs))) ≡ suc (length cs) = ap (λ l. length (l ++ encode_utf8_all cs)) (sym (two_bytes c g h)) ∙ e in
    let least = length-le-encodes cs in
    absurd (omega (arith, sizes, least))
longer c cs (Three g h) e same =
    let sizes : suc (suc (suc (length (encode_utf8_all cs)))) ≡ suc (length cs) = ap (λ l. length (l ++ encode_utf8_all cs)) (sym (three_bytes c g h)) ∙ e in
    let least = length-le-encodes cs in
    absurd (omega (arith, sizes, least))
longer c cs (Four g) e same =
    let sizes : suc (suc (suc (suc (length (encode_utf8_all cs))))) ≡ suc (length cs) = ap (λ l. length (l ++ encode_utf8_all cs)) (sym (four_bytes c g)) ∙ e in
    let least = length-le-encodes cs in
    absurd (omega (arith, sizes, least))

at_least : (c : ℕ) → Size c → 1 ≤ length (encode_utf8 c)
at_least c (One h) = let e = ap length (one_byte c h) in omega (arith, e)
at_least c (Two g h) = let e = ap length (two_bytes c g h) in omega (arith, e)
at_least c (Three g h) = let e = ap length (three_bytes c g h) in omega (arith, e)
at_least c (Four g) = let e = ap length (four_bytes c g) in omega (arith, e)

singles : (cs : List ℕ) → length (encode_utf8_all cs) ≡ length cs → encode_utf8_all cs ≡ cs
singles [] e = refl
singles (c ∷ cs) e =
    let sizes = length-append (encode_utf8 c) (encode_utf8_all cs) in
    let least = length-le-encodes cs in
    let one = at_least c (size_of c) in
    longer c cs (size_of c) e (singles cs (omega (arith, e, sizes, least, one)))

pub plain_characters : (bs : List ℕ) → IsUtf8 bs → characters bs ≡ length bs → chars bs ≡ bs
plain_characters bs u e =
    let spelled : encode_utf8_all u.0 ≡ bs = u.1.1 in
    let same : encode_utf8_all u.0 ≡ u.0 = singles u.0 (ap length spelled ∙ sym e ∙ ap characters (sym spelled) ∙ all_counted u.0) in
    sym (chars_from_encodes u.0 bs u spelled) ∙ sym same ∙ spelled

-- ---- a byte at a place

pub byte_within : (xs : List ℕ) (i x : ℕ) → i < length xs → x ≡ get_or xs i x → Some x ≡ slice_get xs i
byte_within [] i x h e = absurd (omega (arith, h))
byte_within (y ∷ ys) zero x h e = ap (λ (z : ℕ). Some z) e
byte_within (y ∷ ys) (suc i) x h e = byte_within ys i x (omega (arith, h)) e

pub byte_past : (xs : List ℕ) (i : ℕ) → length xs ≤ i → None ≡ slice_get xs i
byte_past xs i h = sym (slice_get_past xs i h)
