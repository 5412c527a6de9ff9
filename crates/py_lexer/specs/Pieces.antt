-- A text is cut into pieces: blanks, comments, line ends, joints and tokens, each the longest of its class at its place.
use Rattle.std.specs.Prelude.{ℕ, zero, suc, pos, ◌+◌, ◌-◌, true, false, ◌==◌, nat_lt, if◌then◌else◌, List, [], ◌∷◌, take, drop, length, Option, Some, None, encode_utf8_all}
use Rattle.py_ast.specs.declared.spelled.Sign.{Sign}
use Rattle.py_ast.specs.declared.token.TokenKind.{TokenKind}
use Rattle.py_ast.specs.declared.token.TokenKind.TheVariants as kind
use Rattle.py_ast.specs.Spelled.{sign_spelled}
use Rattle.py_lexer.specs.declared.runs.Class.TheVariants as class
use Rattle.py_lexer.specs.declared.refusals.Fault.{Fault}
use Rattle.py_lexer.specs.declared.refusals.Fault.TheVariants as fault
use Rattle.py_lexer.specs.Characters.{belongs, run_length}
use Rattle.py_lexer.specs.PhysicalLines.{line_end, line_ends}
use Rattle.py_lexer.specs.Words.{begins_word, word_token}
use Rattle.py_lexer.specs.Strings.{Part, is_quote, is_raw, literal}
use Rattle.py_lexer.specs.Numerals.{begins_numeral, numeral}
use Rattle.py_lexer.specs.Signs.{sign_at}

pub data Piece : Type 0 where
  Blank : List ℕ → Piece
  Comment : Piece
  LineEnd : Piece
  -- a backslash and the line end that it takes away
  Joint : Piece
  Token : TokenKind → Piece
  -- no token stands here, as a place shows that lies so many lines below
  Bad : Fault → ℕ → Piece

-- a piece and its length
abbrev pub Found : Type 0
Found = Piece × ℕ

abbrev pub bad : Fault → Found
bad f = (Bad f 0, 1)

-- a backslash joins two lines directly before a line's end alone
unfoldable pub joint_at : List ℕ → Found
joint_at s = if nat_lt 0 (line_end s) then (Joint, line_end s + 1) else bad fault.Token

abbrev pub word_by : Option TokenKind → ℕ → Found
word_by None n = bad fault.Token
word_by (Some k) n = (Token k, n)

-- A string that isn't closed is refused at its first character, an escape at its backslash.
abbrev pub literal_by : ℕ → Option ℕ → Part → List ℕ → Found
literal_by prefix None p s = (Token (kind.Text (encode_utf8_all p.text)), prefix + p.length)
literal_by prefix (Some k) p s = (Bad fault.Token (line_ends (take k s)), 1)

abbrev pub literal_found : ℕ → Option Part → List ℕ → Found
literal_found prefix None s = bad fault.Token
literal_found prefix (Some p) s = literal_by prefix p.refused p s

-- a word, which before a quote may be the prefix of a raw string
unfoldable pub word_at : List ℕ → Found
word_at s =
    let n = run_length class.Word s in
    if is_raw (take n s) (drop n s) then literal_found n (literal true (drop n s)) (drop n s)
    else word_by (word_token (take n s)) n

abbrev pub numeral_by : Option ℕ → ℕ → Found
numeral_by None n = bad fault.Number
numeral_by (Some v) n = (Token (kind.Number (pos v)), n)

unfoldable pub numeral_at : List ℕ → Found
numeral_at s = let n = run_length class.Numeral s in numeral_by (numeral (take n s)) n

abbrev pub sign_by : Option Sign → Found
sign_by None = bad fault.Token
sign_by (Some s) = (Token (kind.Sign s), length (sign_spelled s))

-- The piece at a place, and its length: a line end (2.1.2), a comment (2.1.3), a joint (2.1.5), blanks (2.1.9), a word (2.3), a string (2.4.1),
-- a numeral (2.4.5), or a sign (2.5 and 2.6). The first character tells which.
unfoldable pub piece_at : List ℕ → Found
piece_at [] = bad fault.Token
piece_at (c ∷ s) =
    if nat_lt 0 (line_end (c ∷ s)) then (LineEnd, line_end (c ∷ s))
    else (if c == 35 then (Comment, run_length class.Comment (c ∷ s))
    else (if c == 92 then joint_at s
    else (if belongs class.Blank c then (Blank (take (run_length class.Blank (c ∷ s)) (c ∷ s)), run_length class.Blank (c ∷ s))
    else (if begins_word c then word_at (c ∷ s)
    else (if is_quote c then literal_found 0 (literal false (c ∷ s)) (c ∷ s)
    else (if begins_numeral c s then numeral_at (c ∷ s)
    else sign_by (sign_at (c ∷ s))))))))

-- a piece, its line, and the characters that it spans
pub record Placed : Type 0 where
  pub line : ℕ
  pub span : List ℕ
  pub piece : Piece

-- The pieces of a text that starts on the line. The first characters are passed over, as parts of a piece before.
abbrev pub pieces : ℕ → ℕ → List ℕ → List Placed
pieces line skip [] = []
pieces line (suc skip) (c ∷ s) = pieces line skip s
pieces line zero (c ∷ s) =
    let found = piece_at (c ∷ s) in
    let span = c ∷ take (found.1 - 1) s in
    record { line = line; span = span; piece = found.0 } ∷ pieces (line + line_ends span) (found.1 - 1) s

-- the line on which a text with these pieces ends
abbrev pub end_line : ℕ → List Placed → ℕ
end_line line [] = line
end_line line (p ∷ ps) = end_line (p.line + line_ends p.span) ps

-- one leading byte order mark is dropped
abbrev pub past_mark : List ℕ → List ℕ
past_mark [] = []
past_mark (c ∷ s) = if c == 0xFEFF then s else c ∷ s

-- the pieces of a script
abbrev pub cut : List ℕ → List Placed
cut text = pieces 1 0 (past_mark text)
