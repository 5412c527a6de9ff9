-- What follows from the definition of a script's tokens.
use Rattle.std.specs.Prelude.{◌≡◌, ◌≢◌, ℕ, ◌<◌, ◌≤◌, Bool, true, false, not, if◌then◌else◌, List, [], ◌∷◌, take, length, slice_index}
use Rattle.std.specs.List.{flat_map, list_all}
use Rattle.std.specs.Str.{chars}
use Rattle.py_ast.specs.declared.spelled.Sign.{Sign}
use Rattle.py_ast.specs.declared.token.Token.{Token}
use Rattle.py_ast.specs.declared.token.TokenKind.{TokenKind}
use Rattle.py_ast.specs.declared.token.TokenKind.TheVariants as kind
use Rattle.py_ast.specs.Spelled.{sign_spelled, word_spelled, signs}
use Rattle.py_lexer.specs.declared.runs.Class.{Class}
use Rattle.py_lexer.specs.declared.runs.Class.TheVariants as class
use Rattle.py_lexer.specs.declared.refusals.LexEnd.{LexEnd}
use Rattle.py_lexer.specs.declared.refusals.LexEnd.TheVariants as end
use Rattle.py_lexer.specs.Characters.{belongs, begins}
use Rattle.py_lexer.specs.Pieces.{Piece, Placed, Found, cut, past_mark}
use Rattle.py_lexer.specs.Pieces as piece
use Rattle.py_lexer.specs.Indentation.{at}
use Rattle.py_lexer.specs.Script.{Tokens, Refuses}

-- A script has one token list or one refusal, want of memory aside.
pub record OneAnswer (bytes : List ℕ) : Type 0 where
  pub lists : (a b : List Token) → Tokens bytes a → Tokens bytes b → a ≡ b
  pub list_or_refusal : (a : List Token) (e : LexEnd) → e ≢ end.Memory → Tokens bytes a → Refuses bytes e → ⊥
  pub refusals : (e f : LexEnd) → e ≢ end.Memory → f ≢ end.Memory → Refuses bytes e → Refuses bytes f → e ≡ f

-- ---- nothing is skipped

-- NEWLINE, INDENT and DEDENT stand for no characters
abbrev pub is_layout : TokenKind → Bool
is_layout kind.Newline = true
is_layout kind.Indent = true
is_layout kind.Dedent = true
is_layout _ = false

abbrev pub written : List Token → List Token
written [] = []
written (t ∷ ts) = if is_layout t.kind then written ts else t ∷ written ts

-- the token that a piece is
abbrev pub token_in : Piece → ℕ → List Token
token_in (piece.Token k) line = at line k ∷ []
token_in _ line = []

abbrev pub is_bad : Piece → Bool
is_bad (piece.Bad f below) = true
is_bad _ = false

-- Each character of a script belongs to one piece. Where the script has tokens, each piece is blank, a comment, a line end, a joint or one of the
-- tokens, in their order, and there are no other tokens but NEWLINE, INDENT and DEDENT.
pub record EveryCharacterStands (bytes : List ℕ) : Type 0 where
  pub spans : flat_map (λ p. p.span) (cut (chars bytes)) ≡ past_mark (chars bytes)
  pub tokens : (ts : List Token) → Tokens bytes ts → written ts ≡ written (flat_map (λ p. token_in p.piece p.line) (cut (chars bytes)))
  pub no_bad : (ts : List Token) → Tokens bytes ts → list_all (λ p. not (is_bad p.piece)) (cut (chars bytes)) ≡ true

-- ---- each piece is the longest of its class

-- the first n characters are of the class, and the one behind them isn't
pub record IsRun (class : Class) (n : ℕ) (text : List ℕ) : Type 0 where
  pub inside : (k : ℕ) → k < n → belongs class (slice_index text k) ≡ true
  pub stops : n < length text → belongs class (slice_index text n) ≡ false

abbrev pub Every : {X : Type 0} → (X → Type 0) → List X → Type 0
Every P [] = Unit {0}
Every P (x ∷ xs) = P x × Every P xs

-- the sign stands at the front, and no longer one does
pub record IsLongest (sign : Sign) (text : List ℕ) : Type 0 where
  pub front : begins text (sign_spelled sign) ≡ true
  pub longest : Every (λ other. begins text (sign_spelled other) ≡ true → length (sign_spelled other) ≤ length (sign_spelled sign)) signs

abbrev pub FitsKind : TokenKind → ℕ → List ℕ → Type 0
FitsKind (kind.Name name) n text = IsRun class.Word n text
FitsKind (kind.Keyword word) n text = IsRun class.Word n text × take n text ≡ word_spelled word
FitsKind (kind.Number v) n text = IsRun class.Numeral n text
FitsKind (kind.Sign sign) n text = IsLongest sign text × n ≡ length (sign_spelled sign)
FitsKind _ n text = Unit {0}

-- a piece of this length is the longest of its class at the front of the text
abbrev pub Fits : Found → List ℕ → Type 0
Fits (piece.Blank blank, n) text = IsRun class.Blank n text × blank ≡ take n text
Fits (piece.Comment, n) text = IsRun class.Comment n text
Fits (piece.Token k, n) text = FitsKind k n text
Fits (_, n) text = Unit {0}
