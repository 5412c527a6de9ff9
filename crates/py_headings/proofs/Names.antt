-- The names that the lexer gives are not empty, and have no space.
use Rattle.std.proofs.Common.{◌≡◌, ◌≢◌, ℕ, ◌+◌, ◌/◌, ◌%◌, ◌<◌, Bool, true, false, cond, ◌||◌, ◌==◌, nat_eq, nat_lt, if◌then◌else◌, List, [], ◌∷◌, ◌++◌, length, Option, Some, None, refl, ap, subst, arith, encode_utf8_all}
use Rattle.std.proofs.lemmas.Bool.Decides.{nat_tests}
use Rattle.std.specs.Char.{encode_utf8}
use Rattle.std.specs.List.{list_any}
use Rattle.unicode_normalization.specs.Forms.{nfkc}
use Rattle.py_ast.specs.declared.spelled.Word.{Word}
use Rattle.py_ast.specs.declared.token.TokenKind.{TokenKind}
use Rattle.py_ast.specs.declared.token.TokenKind.TheVariants as kind
use Rattle.py_ast.specs.Spelled.{words}
use Rattle.py_lexer.specs.Words.{word_of, keyword_or_name, word_token}
use Rattle.c_meaning.specs.Written.{has}
use Rattle.py_headings.specs.Laws.{IsName}

or_of : (a b : Bool) → a ≡ false → b ≡ false → (a || b) ≡ false
or_of false b p q = q
or_of true b p q = p

or_left : (a b : Bool) → (a || b) ≡ false → a ≡ false
or_left false b p = refl
or_left true b p = p

or_right : (a b : Bool) → (a || b) ≡ false → b ≡ false
or_right false b p = p
or_right true b p = absurd (cc)

has_none : (xs ys : List ℕ) → has xs 32 ≡ false → has ys 32 ≡ false → has (xs ++ ys) 32 ≡ false
has_none [] ys p q = q
has_none (x ∷ xs) ys p q = or_of (nat_eq x 32) (has (xs ++ ys) 32) (or_left (nat_eq x 32) (has xs 32) p) (has_none xs ys (or_right (nat_eq x 32) (has xs 32) p) q)

-- a byte that is no space
beyond : (x : ℕ) → 32 < x → nat_eq x 32 ≡ false
beyond x h = grind (arith, nat_tests)

byte_before : (x : ℕ) (xs : List ℕ) → 32 < x → has xs 32 ≡ false → has (x ∷ xs) 32 ≡ false
byte_before x xs h p = or_of (nat_eq x 32) (has xs 32) (beyond x h) p

-- as a record, so that the bytes are found in it
record Spaceless (xs : List ℕ) : Type 0 where
  none : has xs 32 ≡ false

either_none : (b : Bool) (xs ys : List ℕ) → Spaceless xs → Spaceless ys → Spaceless (cond b xs ys)
either_none true xs ys p q = p
either_none false xs ys p q = q

bytes_none : (x : ℕ) (xs : List ℕ) → 32 < x → Spaceless xs → Spaceless (x ∷ xs)
bytes_none x xs h p = record { none = byte_before x xs h p.none }

character_spaceless : (c : ℕ) → nat_eq c 32 ≡ false → Spaceless (encode_utf8 c)
unfolding encode_utf8
character_spaceless c e =
    let over : Spaceless [] = record { none = refl } in
    let last : Spaceless ((128 + c % 64) ∷ []) = bytes_none (128 + c % 64) [] (omega arith) over in
    let two : Spaceless ((128 + c / 64 % 64) ∷ (128 + c % 64) ∷ []) = bytes_none (128 + c / 64 % 64) _ (omega arith) last in
    either_none (nat_lt c 128) (c ∷ []) _ (record { none = or_of (nat_eq c 32) false e refl })
    (either_none (nat_lt c 2048) _ _ (bytes_none (192 + c / 64) _ (omega arith) last)
    (either_none (nat_lt c 65536) _ _ (bytes_none (224 + c / 4096) _ (omega arith) two)
    (bytes_none (240 + c / 262144) _ (omega arith) (bytes_none (128 + c / 4096 % 64) _ (omega arith) two))))

character_none : (c : ℕ) → nat_eq c 32 ≡ false → has (encode_utf8 c) 32 ≡ false
character_none c e = (character_spaceless c e).none

encoded_none : (cs : List ℕ) → list_any (λ c. c == 32) cs ≡ false → has (encode_utf8_all cs) 32 ≡ false
encoded_none [] e = refl
encoded_none (c ∷ cs) e = has_none (encode_utf8 c) (encode_utf8_all cs) (character_none c (or_left (c == 32) (list_any (λ c. c == 32) cs) e)) (encoded_none cs (or_right (c == 32) (list_any (λ c. c == 32) cs) e))

abbrev IsSome : List ℕ → Type 0
IsSome [] = ⊥
IsSome (x ∷ xs) = Unit {0}

record Begun (xs zs : List ℕ) : Type 0 where
  some : IsSome (xs ++ zs)

either_some : (b : Bool) (xs ys zs : List ℕ) → Begun xs zs → Begun ys zs → Begun (cond b xs ys) zs
either_some true xs ys zs p q = p
either_some false xs ys zs p q = q

begun : (x : ℕ) (xs zs : List ℕ) → Begun (x ∷ xs) zs
begun x xs zs = record { some = tt }

character_begun : (c : ℕ) (bs : List ℕ) → Begun (encode_utf8 c) bs
unfolding encode_utf8
character_begun c bs =
    either_some (nat_lt c 128) (c ∷ []) _ bs (begun c [] bs)
    (either_some (nat_lt c 2048) ((192 + c / 64) ∷ (128 + c % 64) ∷ []) _ bs (begun _ _ bs)
    (either_some (nat_lt c 65536) ((224 + c / 4096) ∷ (128 + c / 64 % 64) ∷ (128 + c % 64) ∷ []) _ bs (begun _ _ bs)
    (begun (240 + c / 262144) ((128 + c / 4096 % 64) ∷ (128 + c / 64 % 64) ∷ (128 + c % 64) ∷ []) bs)))

character_some : (c : ℕ) (bs : List ℕ) → IsSome (encode_utf8 c ++ bs)
character_some c bs = (character_begun c bs).some

encoded_some : (cs : List ℕ) → (length cs == 0) ≡ false → encode_utf8_all cs ≢ []
encoded_some [] h e = absurd (cc)
encoded_some (c ∷ cs) h e = subst IsSome e (character_some c (encode_utf8_all cs))

abbrev pub SoundKind : TokenKind → Type 0
SoundKind k = (name : List ℕ) → k ≡ kind.Name name → IsName name

abbrev pub MaySound : Option TokenKind → Type 0
MaySound None = Unit {0}
MaySound (Some k) = SoundKind k

abbrev text_of : TokenKind → List ℕ
text_of (kind.Name text) = text
text_of _ = []

name_by : (form : List ℕ) (b : Bool) → (length form == 0 || list_any (λ c. c == 32) form) ≡ b → MaySound (if b then None else Some (kind.Name (encode_utf8_all form)))
name_by form true e = tt
name_by form false e = λ name is.
    let p : IsName (encode_utf8_all form) = record {
      some = encoded_some form (or_left (length form == 0) (list_any (λ c. c == 32) form) e);
      no_space = encoded_none form (or_right (length form == 0) (list_any (λ c. c == 32) form) e);
    } in
    subst IsName (ap text_of is) p

word_by : (o : Option Word) (word : List ℕ) → MaySound (keyword_or_name o word)
word_by (Some w) word = λ name is. absurd (cc)
word_by None word = name_by (nfkc word) _ refl

pub word_sound : (word : List ℕ) → MaySound (word_token word)
unfolding word_token
word_sound word = word_by (word_of words word) word
