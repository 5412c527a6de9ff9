-- What the code's values stand for, and when its answers are right.
use Rattle.std.specs.Prelude.{◌≡◌, ◌≤◌, ◌<◌, ◌==◌, ◌||◌, nat_lt, if◌then◌else◌, ℕ, [], ◌∷◌, ◌++◌, Bool, true, false, List, take, map, reverse, Option, Some, None, Result, Ok, Err, encode_utf8_all, string_bytes}
use Rattle.std.specs.Char.{digit_value}
use Rattle.py_ast.specs.declared.token.Token.{Token}
use Rattle.py_lexer.specs.declared.refusals.LexEnd.{LexEnd}
use Rattle.py_lexer.specs.declared.refusals.LexEnd.TheVariants as end
use Rattle.py_lexer.specs.declared.runs.Class.{Class}
use Rattle.py_lexer.specs.declared.strings.Stands.{Stands}
use Rattle.py_lexer.specs.declared.strings.Stands.TheVariants as stands
use Rattle.py_lexer.specs.declared.strings.Taken.{Taken}
use Rattle.py_lexer.specs.declared.strings.Read.{Read}
use Rattle.py_lexer.specs.declared.brackets.Bracket.{Bracket}
use Rattle.py_lexer.specs.declared.pieces.Piece.{Piece}
use Rattle.py_lexer.specs.declared.pieces.Piece.TheVariants as code
use Rattle.py_lexer.specs.declared.pieces.Found.{Found}
use Rattle.py_lexer.specs.declared.refusals.Stop.{Stop}
use Rattle.py_lexer.specs.declared.refusals.Stop.TheVariants as stop
use Rattle.py_lexer.specs.declared.layout.Layout.{Layout}
use Rattle.py_lexer.specs.declared.levels.Start as levels
use Rattle.py_lexer.specs.Characters.{run_length}
use Rattle.py_lexer.specs.PhysicalLines.{line_end, line_ends}
use Rattle.py_lexer.specs.Strings.{Escape, Part}
use Rattle.py_lexer.specs.Pieces as spec
use Rattle.py_lexer.specs.Indentation.{Start, enter}
use Rattle.py_lexer.specs.LogicalLines.{◌>>=◌}
use Rattle.py_lexer.specs.Machine.{State}

-- ---- runs and numerals

-- the run at the front
abbrev pub run : Class → List ℕ → List ℕ
run class s = take (run_length class s) s

-- a number, with the length of the run that it is
abbrev pub measured : Option ℕ → ℕ → Option (ℕ × ℕ)
measured None n = None
measured (Some v) n = Some (v, n)

-- the base that a letter behind a zero names
abbrev pub base_of : ℕ → Option ℕ
base_of c = if c == 120 || c == 88 then Some 16 else (if c == 111 || c == 79 then Some 8 else (if c == 98 || c == 66 then Some 2 else None))

-- ---- strings

-- an octal digit of this value stands at the front, and this behind it
abbrev pub StartsWith : ℕ → List ℕ → List ℕ → Type 0
StartsWith d rest [] = ⊥
StartsWith d rest (c ∷ s) = (digit_value c ≡ d) × (d < 8) × (rest ≡ s)

abbrev pub characters : Stands → List ℕ
characters stands.Nothing = []
characters (stands.One c) = c ∷ []
characters (stands.Kept c) = 92 ∷ c ∷ []

-- an escape that is refused stands for none
abbrev pub characters_or_none : Option Stands → List ℕ
characters_or_none None = []
characters_or_none (Some s) = characters s

abbrev pub refused_by : Option Stands → Option ℕ
refused_by None = Some 0
refused_by (Some s) = None

abbrev pub escape : Option (Stands × ℕ) → Option Escape
escape None = None
escape (Some e) = Some (characters e.0, e.1)

abbrev pub item : Option Taken → Option Part
item None = None
item (Some i) = Some (record { text = characters_or_none i.stands; refused = refused_by i.stands; length = i.length })

-- a part with its text in UTF-8
abbrev pub encoded : Option Part → Option Part
encoded None = None
encoded (Some p) = Some (record p { text = encode_utf8_all p.text })

-- how many line ends start at the front
abbrev pub lines_at : List ℕ → ℕ
lines_at s = if nat_lt 0 (line_end s) then 1 else 0

-- how many line ends an item at the front has: it is one, or a backslash before one, or has none
abbrev pub lines_in : List ℕ → ℕ
lines_in [] = 0
lines_in (c ∷ s) = if nat_lt 0 (line_end (c ∷ s)) then 1 else (if c == 92 then lines_at s else 0)

-- what a part at the front of a text stands for, how many lines below its start the first refused escape is, and how many line ends it has
pub record Counted : Type 0 where
  pub text : List ℕ
  pub refused : Option ℕ
  pub length : ℕ
  pub lines : ℕ

abbrev pub lines_below : Option ℕ → List ℕ → Option ℕ
lines_below None s = None
lines_below (Some k) s = Some (line_ends (take k s))

abbrev pub counted : Option Part → List ℕ → Option Counted
counted None s = None
counted (Some p) s = Some (record { text = p.text; refused = lines_below p.refused s; length = p.length; lines = line_ends (take p.length s) })

abbrev pub read : Option Read → Option Counted
read None = None
read (Some r) = Some (record { text = string_bytes r.text; refused = r.refused; length = r.length; lines = r.lines })

-- ---- pieces

abbrev pub piece : Piece → spec.Piece
piece (code.Blank text) = spec.Blank text.now
piece code.Comment = spec.Comment
piece code.LineEnd = spec.LineEnd
piece code.Joint = spec.Joint
piece (code.Token k) = spec.Token k

-- What a function returned is what is found, unless memory ran out.
abbrev pub Stops : Stop → spec.Found → Type 0
Stops (stop.Fault f below) found = found ≡ (spec.Bad f below, 1)
Stops stop.Memory found = Unit {0}

-- what is wrong shows within the text
abbrev pub IsNear : Stop → Type 0
IsNear (stop.Fault f below) = below ≤ 262144
IsNear stop.Memory = Unit {0}

abbrev pub Finds : Result Found Stop → spec.Found → Type 0
Finds (Ok x) found = found ≡ (piece x.piece, x.length)
Finds (Err e) found = Stops e found

-- ---- lines

abbrev pub start : Option levels.Start → Option Start
start None = None
start (Some s) = Some (record { line = s.line; blank = s.blank.now })

abbrev pub state : Layout → State
state l = record {
  tokens = l.tokens.items;
  last = l.last;
  levels = map (λ level. level.now) l.levels.items;
  open_ = reverse l.brackets.items;
  fresh = l.fresh;
  start = start l.start;
}

-- an error is the refusal that is given, unless memory ran out
abbrev pub Refused : {A : Type 0} → LexEnd → Result A LexEnd → Type 0
Refused end.Memory given = Unit {0}
Refused end.Utf8 given = ⊥
Refused e given = given ≡ Err e

-- what a call left or returned is what is given
abbrev pub Leaves : {X A : Type 0} → A → Result X LexEnd → Result A LexEnd → Type 0
Leaves new (Ok x) given = given ≡ Ok new
Leaves new (Err e) given = Refused e given

abbrev pub Gives : {V A : Type 0} → (V → A) → Result V LexEnd → Result A LexEnd → Type 0
Gives seen (Ok v) given = given ≡ Ok (seen v)
Gives seen (Err e) given = Refused e given

-- the levels and the tokens that a line's indentation leaves
abbrev pub lay : List (List ℕ) → List Token → Start → ℕ → Result (List (List ℕ) × List Token) LexEnd
lay levels tokens start first = enter levels start first >>= λ e. Ok (e.levels, tokens ++ e.tokens)

abbrev pub Turns : Bool → Option (List Bracket) → List Bracket → Type 0
Turns true given new = given ≡ Some new
Turns false given new = given ≡ None
