-- Texts by their characters, and their pieces.
use Rattle.std.specs.Prelude.{◌≡◌, ◌≢◌, ℕ, ◌<◌, ◌≤◌, pos, negsuc, List, ◌++◌, length, encode_utf8_all, IsUtf8}
use Rattle.std.specs.Ordering.{nat_cmp}
use Rattle.std.specs.Cmp.Lexicographic.{slice_cmp}
use Rattle.nu_text.specs.Characters.{characters}
use Rattle.op_rules.specs.Comparisons.{text_cmp}
use Rattle.op_rules.specs.TextMethods.{found_at, replaced}
use Rattle.op_rules.specs.TextParts.{pieces, text_values, joined}

-- a text has as many characters as were written in UTF-8, and texts are ordered as their characters are
pub record TextsAreCharacters : Type 0 where
  pub counted : (cs : List ℕ) → characters (encode_utf8_all cs) ≡ length cs
  pub ordered : (cs ds : List ℕ) → text_cmp (encode_utf8_all cs) (encode_utf8_all ds) ≡ slice_cmp nat_cmp cs ds

-- a part stands in a text between a front and a back, and behind no shorter front
pub record IsFirstPlace (part text front back : List ℕ) : Type 0 where
  pub split : text ≡ front ++ part ++ back
  pub first : (f b : List ℕ) → text ≡ f ++ part ++ b → length front ≤ length f

-- what stands between the places of a part, joined by it, is the text; each part is replaced by itself, and then nothing
-- changes; the first place is found, and none only where there is none
pub record CutTextsJoinAgain : Type 0 where
  pub joins : (part text : List ℕ) → 0 < length part → joined part (text_values (pieces part text)) ≡ text
  pub stays : (part text : List ℕ) → IsUtf8 text → replaced part part text ≡ text
  pub finds : (part text : List ℕ) (n : ℕ) → 0 < length part → found_at (pieces part text) ≡ pos n
      → (front : List ℕ) × (back : List ℕ) × IsFirstPlace part text front back × (n ≡ characters front)
  pub lacks : (part text : List ℕ) (n : ℕ) → 0 < length part → found_at (pieces part text) ≡ negsuc n → (f b : List ℕ) → text ≢ f ++ part ++ b
