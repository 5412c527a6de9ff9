-- Parts of texts: pieces between the places of a part, words, blanks, and what is joined of texts.
use Rattle.std.specs.Prelude.{ℕ, zero, suc, ◌-◌, List, [], ◌∷◌, ◌++◌, Bool, true, false, ◌&&◌, ◌||◌, ◌==◌, nat_eq, nat_le, nat_lt, if◌then◌else◌, map, length, drop, encode_utf8}
use Rattle.std.specs.List.{starts_with, join_by, list_all, prefix_len}
use Rattle.std.specs.Str.{chars}
use Rattle.nu_value.specs.declared.value.Value.{Value}
use Rattle.nu_value.specs.declared.value.Value.TheVariants as value

-- ---- pieces

-- What is left of a text, cut at each place of a part, from the left and without overlap: so much of a part is still to be
-- passed, and so much of a piece was.
abbrev pub pieces_from : List ℕ → ℕ → List ℕ → List ℕ → List (List ℕ)
pieces_from part skip piece [] = piece ∷ []
pieces_from part (suc skip) piece (b ∷ bs) = pieces_from part skip piece bs
pieces_from part zero piece (b ∷ bs) =
    if starts_with nat_eq (b ∷ bs) part then piece ∷ pieces_from part (length part - 1) [] bs else pieces_from part zero (piece ++ b ∷ []) bs

-- an empty part stands before each character and at the end
abbrev pub single_pieces : List ℕ → List (List ℕ)
single_pieces cs = [] ∷ map encode_utf8 cs ++ [] ∷ []

-- a text, cut at each place of a part
abbrev pub pieces : List ℕ → List ℕ → List (List ℕ)
pieces part text = if length part == 0 then single_pieces (chars text) else pieces_from part 0 [] text

abbrev pub text_values : List (List ℕ) → List Value
text_values texts = map value.Str texts

-- ---- joining

abbrev pub text_in : Value → List ℕ
text_in (value.Str text) = text
text_in other = []

-- texts, one after another, with another between them
abbrev pub joined : List ℕ → List Value → List ℕ
joined between texts = join_by text_in between texts

-- ---- ASCII

abbrev pub is_ascii : List ℕ → Bool
is_ascii text = list_all (λ b. nat_lt b 128) text

-- a tab, a line end, a form feed, a separator or a space
abbrev pub is_blank : ℕ → Bool
is_blank b = nat_le 9 b && nat_le b 13 || nat_le 28 b && nat_le b 32

abbrev pub is_nothing : List ℕ → Bool
is_nothing [] = true
is_nothing (b ∷ bs) = false

-- ---- blanks at the ends

abbrev pub without_end : List ℕ → List ℕ
without_end [] = []
without_end (b ∷ bs) = if is_blank b && is_nothing (without_end bs) then [] else b ∷ without_end bs

abbrev pub stripped : List ℕ → List ℕ
stripped text = without_end (drop (prefix_len is_blank text) text)

-- ---- words

abbrev pub word_before : List ℕ → List (List ℕ) → List (List ℕ)
word_before [] more = more
word_before (b ∷ word) more = (b ∷ word) ∷ more

-- the words of what is left of a text, of which so much of a word was passed
abbrev pub words_from : List ℕ → List ℕ → List (List ℕ)
words_from word [] = word_before word []
words_from word (b ∷ bs) = if is_blank b then word_before word (words_from [] bs) else words_from (word ++ b ∷ []) bs

-- what stands between blanks
abbrev pub words : List ℕ → List (List ℕ)
words text = words_from [] text
