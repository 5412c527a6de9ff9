-- What the code keeps: one pass over the pieces, with the levels and brackets on stacks.
use Rattle.std.specs.Prelude.{ℕ, Bool, true, false, if◌then◌else◌, List, [], ◌∷◌, ◌++◌, length, Option, Some, None, Result, Ok, Err, replicate}
use Rattle.py_ast.specs.declared.token.Token.{Token}
use Rattle.py_ast.specs.declared.token.TokenKind.TheVariants as kind
use Rattle.py_lexer.specs.declared.refusals.LexEnd.{LexEnd}
use Rattle.py_lexer.specs.declared.refusals.LexEnd.TheVariants as end
use Rattle.py_lexer.specs.declared.brackets.Bracket.{Bracket}
use Rattle.py_lexer.specs.Pieces.{Piece, Placed}
use Rattle.py_lexer.specs.Pieces as piece
use Rattle.py_lexer.specs.Indentation.{at, Start, enter}
use Rattle.py_lexer.specs.LogicalLines.{◌>>=◌, step, last_line}

pub record State : Type 0 where
  pub tokens : List Token
  -- the line of the last token
  pub last : ℕ
  pub levels : List (List ℕ)
  pub open_ : List Bracket
  -- no token of the line was read yet
  pub fresh : Bool
  -- the line's start, once its first piece was read
  pub start : Option Start

abbrev pub start_or : Option Start → Start → Start
start_or None s = s
start_or (Some old) s = old

abbrev pub start_at : ℕ → List ℕ → Start
start_at line blank = record { line = line; blank = blank }

-- a token on this line comes next
abbrev pub entered : ℕ → State → Result State LexEnd
entered line s =
    if s.fresh then enter s.levels (start_or s.start (start_at line [])) line >>= (λ e. Ok (record s { tokens = s.tokens ++ e.tokens; levels = e.levels; fresh = false }))
    else Ok s

abbrev pub with_token : Piece → ℕ → State → Result State LexEnd
with_token p line s = entered line s >>= λ u. step p line u.open_ >>= λ r. Ok (record u { tokens = u.tokens ++ r.tokens; last = last_line u.last r.tokens; open_ = r.open_ })

abbrev pub ended : State → State
ended s = if s.fresh then record s { start = None } else record s { tokens = s.tokens ++ at s.last kind.Newline ∷ []; fresh = true; start = None }

abbrev pub at_line_end : List Bracket → State → State
at_line_end [] s = ended s
at_line_end (o ∷ open_) s = s

abbrev pub accept : Piece → ℕ → State → Result State LexEnd
accept (piece.Blank text) line s = Ok (record s { start = Some (start_or s.start (start_at line text)) })
accept piece.Comment line s = Ok (record s { start = Some (start_or s.start (start_at line [])) })
accept piece.Joint line s = Ok (record s { start = Some (start_or s.start (start_at line [])) })
accept piece.LineEnd line s = Ok (at_line_end s.open_ s)
accept p line s = with_token p line s

abbrev pub dedents : State → List Token
dedents s = replicate (length s.levels) (at s.last kind.Dedent)

abbrev pub finish_by : List Bracket → ℕ → State → Result (List Token) LexEnd
finish_by [] line s = Ok (s.tokens ++ at s.last kind.Newline ∷ [] ++ dedents s)
finish_by (o ∷ open_) line s = Err (end.Token line)

-- the text ends on this line
abbrev pub finish : ℕ → State → Result (List Token) LexEnd
finish line s = if s.fresh then Ok (s.tokens ++ dedents s) else finish_by s.open_ line s

abbrev pub pass : ℕ → List Placed → State → Result (List Token) LexEnd
pass end_ [] s = finish end_ s
pass end_ (p ∷ ps) s = accept p.piece p.line s >>= pass end_ ps

abbrev pub initial : State
initial = record { tokens = []; last = 1; levels = []; open_ = []; fresh = true; start = None }
