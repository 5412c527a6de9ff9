-- Identifiers and keywords (reference, sections 2.3 and 2.3.1).
use Rattle.std.specs.Prelude.{ℕ, Bool, ◌||◌, ◌==◌, if◌then◌else◌, List, [], ◌∷◌, length, Option, Some, None, encode_utf8_all}
use Rattle.std.specs.Str.{bytes_eq}
use Rattle.std.specs.List.{list_any}
use Rattle.unicode_ident.specs.Ident.{is_xid_start}
use Rattle.unicode_normalization.specs.Forms.{nfkc}
use Rattle.py_ast.specs.declared.spelled.Word.{Word}
use Rattle.py_ast.specs.declared.token.TokenKind.{TokenKind}
use Rattle.py_ast.specs.declared.token.TokenKind.TheVariants as kind
use Rattle.py_ast.specs.Spelled.{word_spelled, words}

-- an identifier starts with XID_Start or an underscore
abbrev pub begins_word : ℕ → Bool
begins_word c = is_xid_start c || c == 95

-- the keyword of the list that is the word
abbrev pub word_of : List Word → List ℕ → Option Word
word_of [] word = None
word_of (w ∷ ws) word = if bytes_eq word (word_spelled w) then Some w else word_of ws word

-- an identifier's normal form, unless it is empty or has a space
abbrev pub name_of : List ℕ → Option TokenKind
name_of form = if length form == 0 || list_any (λ c. c == 32) form then None else Some (kind.Name (encode_utf8_all form))

abbrev pub keyword_or_name : Option Word → List ℕ → Option TokenKind
keyword_or_name (Some keyword) word = Some (kind.Keyword keyword)
keyword_or_name None word = name_of (nfkc word)

-- A word is a keyword where it is spelled as one. Every other word is a name, in the normal form NFKC.
unfoldable pub word_token : List ℕ → Option TokenKind
word_token word = keyword_or_name (word_of words word) word
