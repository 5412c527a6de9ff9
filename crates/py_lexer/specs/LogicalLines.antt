-- Logical lines (reference, sections 2.1.1, 2.1.5 to 2.1.8): pieces up to a line end outside brackets, and the tokens that they give.
use Rattle.std.specs.Prelude.{ℕ, zero, suc, ◌+◌, ◌-◌, Bool, true, false, ◌&&◌, if◌then◌else◌, List, [], ◌∷◌, ◌++◌, length, Option, Some, None, Result, Ok, Err, replicate}
use Rattle.py_ast.specs.declared.spelled.Sign.{Sign}
use Rattle.py_ast.specs.declared.token.Token.{Token}
use Rattle.py_ast.specs.declared.token.TokenKind.TheVariants as kind
use Rattle.py_lexer.specs.declared.refusals.Fault.{Fault}
use Rattle.py_lexer.specs.declared.refusals.Fault.TheVariants as fault
use Rattle.py_lexer.specs.declared.refusals.LexEnd.{LexEnd}
use Rattle.py_lexer.specs.declared.refusals.LexEnd.TheVariants as end
use Rattle.py_lexer.specs.declared.brackets.Bracket.{Bracket}
use Rattle.py_lexer.specs.declared.brackets.Role.{Role}
use Rattle.py_lexer.specs.declared.brackets.Role.TheVariants as role
use Rattle.py_lexer.specs.Pieces.{Piece, Placed, end_line}
use Rattle.py_lexer.specs.Pieces as piece
use Rattle.py_lexer.specs.Brackets.{role_of, turn}
use Rattle.py_lexer.specs.Indentation.{at, Start, enter}

-- the first refusal stands for the whole
infixl 10 ◌>>=◌
abbrev pub ◌>>=◌ : {A B : Type 0} → Result A LexEnd → (A → Result B LexEnd) → Result B LexEnd
(Ok x) >>= f = f x
(Err e) >>= f = Err e

abbrev pub behind : List Token → Result (List Token) LexEnd → Result (List Token) LexEnd
behind front r = r >>= λ ts. Ok (front ++ ts)

abbrev pub refusal : Fault → ℕ → LexEnd
refusal fault.Token line = end.Token line
refusal fault.Number line = end.Number line

-- ---- a line end inside brackets ends no logical line

abbrev pub role_of_piece : Piece → Role
role_of_piece (piece.Token (kind.Sign s)) = role_of s
role_of_piece _ = role.Plain

abbrev pub deeper : Role → ℕ → ℕ
deeper (role.Opens b) depth = suc depth
deeper (role.Closes b) depth = depth - 1
deeper role.Plain depth = depth

-- the logical lines of pieces, of which there is one more than line ends outside brackets
pub record Cut : Type 0 where
  pub first : List Placed
  pub others : List (List Placed)

abbrev pub put : Placed → Cut → Cut
put p c = record { first = p ∷ c.first; others = c.others }

abbrev pub at_end : ℕ → Placed → Cut → Cut
at_end zero p c = record { first = []; others = c.first ∷ c.others }
at_end (suc depth) p c = put p c

abbrev pub cut_by : Piece → Placed → ℕ → Cut → Cut
cut_by piece.LineEnd p depth c = at_end depth p c
cut_by _ p depth c = put p c

abbrev pub cut : ℕ → List Placed → Cut
cut depth [] = record { first = []; others = [] }
cut depth (p ∷ ps) = cut_by p.piece p depth (cut (deeper (role_of_piece p.piece) depth) ps)

-- ---- one logical line

abbrev pub is_space : Piece → Bool
is_space (piece.Blank text) = true
is_space piece.Comment = true
is_space piece.LineEnd = true
is_space piece.Joint = true
is_space _ = false

-- a line of blanks and comments alone gives no token
abbrev pub is_empty : List Placed → Bool
is_empty [] = true
is_empty (p ∷ ps) = is_space p.piece && is_empty ps

-- where the first token stands
abbrev pub first_line : List Placed → ℕ
first_line [] = 1
first_line (p ∷ ps) = if is_space p.piece then first_line ps else p.line

abbrev pub blank_of : Piece → List ℕ
blank_of (piece.Blank text) = text
blank_of _ = []

-- A line's indentation is its first piece, if that is blank: it ends at a joint.
abbrev pub start_of : List Placed → Start
start_of [] = record { line = 1; blank = [] }
start_of (p ∷ ps) = record { line = p.line; blank = blank_of p.piece }

-- the tokens of a piece, and the brackets that are open behind it
pub record Stepped : Type 0 where
  pub tokens : List Token
  pub open_ : List Bracket

abbrev pub sign_by : Sign → ℕ → Option (List Bracket) → Result Stepped LexEnd
sign_by s line None = Err (end.Token line)
sign_by s line (Some open_) = Ok (record { tokens = at line (kind.Sign s) ∷ []; open_ = open_ })

abbrev pub step : Piece → ℕ → List Bracket → Result Stepped LexEnd
step (piece.Token (kind.Sign s)) line open_ = sign_by s line (turn (role_of s) open_)
step (piece.Token k) line open_ = Ok (record { tokens = at line k ∷ []; open_ = open_ })
step (piece.Bad f below) line open_ = Err (refusal f (line + below))
step _ line open_ = Ok (record { tokens = []; open_ = open_ })

-- a bracket that is open where a line ends, which is then the text's last, counts at the text's end
abbrev pub closed : ℕ → List Bracket → Result (List Token) LexEnd
closed end_ [] = Ok []
closed end_ (o ∷ open_) = Err (end.Token end_)

-- the tokens of a line's pieces
abbrev pub tokens_of : ℕ → List Bracket → List Placed → Result (List Token) LexEnd
tokens_of end_ open_ [] = closed end_ open_
tokens_of end_ open_ (p ∷ ps) = step p.piece p.line open_ >>= λ s. behind s.tokens (tokens_of end_ s.open_ ps)

-- ---- all logical lines

-- the line of the last token
abbrev pub last_line : ℕ → List Token → ℕ
last_line line [] = line
last_line line (t ∷ ts) = last_line t.line ts

-- the tokens of a line, NEWLINE, and what comes behind
abbrev pub newline_and : ℕ → (ℕ → Result (List Token) LexEnd) → List Token → Result (List Token) LexEnd
newline_and last more ts = behind (ts ++ at (last_line last ts) kind.Newline ∷ []) (more (last_line last ts))

-- a line that starts so, and what comes behind
abbrev pub laid : ℕ → Start → ℕ → List (List ℕ) → List Placed → (ℕ → List (List ℕ) → Result (List Token) LexEnd) → Result (List Token) LexEnd
laid end_ start last levels line more =
    if is_empty line then more last levels
    else (enter levels start (first_line line) >>= λ e. behind e.tokens (tokens_of end_ [] line >>= newline_and last (λ n. more n e.levels)))

-- The tokens of logical lines: each against the levels that the lines before it leave, and at the end a DEDENT for each level that is left.
abbrev pub lines : ℕ → ℕ → List (List ℕ) → List (List Placed) → Result (List Token) LexEnd
lines end_ last levels [] = Ok (replicate (length levels) (at last kind.Dedent))
lines end_ last levels (l ∷ ls) = laid end_ (start_of l) last levels l (λ n e. lines end_ n e ls)

abbrev pub listed_to : ℕ → List Placed → Result (List Token) LexEnd
listed_to end_ ps = let c = cut 0 ps in lines end_ 1 [] (c.first ∷ c.others)

-- the tokens of a whole text's pieces, or the first refusal
abbrev pub listed : List Placed → Result (List Token) LexEnd
listed ps = listed_to (end_line 1 ps) ps
