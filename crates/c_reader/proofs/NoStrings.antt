-- Where no string stands.
use Rattle.std.proofs.Common.{◌≡◌, ℕ, ◌<◌, List, [], ◌∷◌, ◌++◌, drop, sym, ◌∙◌, ap, subst, append_assoc}
use Rattle.std.specs.Prelude.{codes, IsUtf8}
use Rattle.std.specs.List.{flat_map}
use Rattle.nu_text.specs.Pieces.{before}
use Rattle.nu_text.specs.Strings.{string_byte}
use Rattle.c_reader.specs.Pieces.{AreBytes, QuotedStands, StringStands}
use Rattle.nu_text.proofs.Strings.{string_cut, string_both, utf8_bytes, byte_behind}

-- the bytes that were read, and what is left, begin a string
cut : (text left read bytes rest : List ℕ) → text ≡ before (codes "\"" ∷ flat_map string_byte read ∷ []) left → QuotedStands text bytes rest → (more : List ℕ) × (bytes ≡ read ++ more) × (left ≡ flat_map string_byte more ++ 34 ∷ rest)
cut text left read bytes rest e s = string_cut read bytes left rest (ap (drop 1) (sym e ∙ s.spelled) ∙ append_assoc (flat_map string_byte bytes) (codes "\"") rest)

pub no_string : (text left read : List ℕ) → text ≡ before (codes "\"" ∷ flat_map string_byte read ∷ []) left → ((byte : ℕ) (rest : List ℕ) → byte < 256 → left ≡ string_byte byte ++ rest → ⊥) → ((rest : List ℕ) → left ≡ codes "\"" ++ rest → ⊥)
    → (bytes rest : List ℕ) → QuotedStands text bytes rest → ⊥
no_string text left read e byte quote bytes rest s =
    let c = cut text left read bytes rest e s in
    go c.0 c.1 c.2
  where
    go : (more : List ℕ) → bytes ≡ read ++ more → left ≡ flat_map string_byte more ++ 34 ∷ rest → ⊥
    go [] all l = quote rest l
    go (b ∷ more) all l = byte b (flat_map string_byte more ++ 34 ∷ rest) (byte_behind read more b (subst AreBytes all s.bytes_fit)) (l ∙ append_assoc (string_byte b) (flat_map string_byte more) (34 ∷ rest))

-- a text between quotation marks is bytes between them
pub quoted_of : (text bytes rest : List ℕ) → StringStands text bytes rest → QuotedStands text bytes rest
quoted_of text bytes rest s = record { bytes_fit = utf8_bytes bytes s.utf8; spelled = s.spelled }

-- bytes that are no text
pub no_text : (text read behind given : List ℕ) → QuotedStands text read behind → given ≡ read → (IsUtf8 given → ⊥) → (bytes rest : List ℕ) → StringStands text bytes rest → ⊥
no_text text read behind given q same bad bytes rest s =
    bad (subst IsUtf8 (sym (same ∙ (string_both read bytes behind rest (sym q.spelled ∙ s.spelled)).0)) s.utf8)
