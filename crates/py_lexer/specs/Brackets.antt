-- Brackets (reference, section 2.1.6): lines inside them are joined, and each is closed by one of its kind.
use Rattle.std.specs.Prelude.{Bool, true, false, if◌then◌else◌, List, [], ◌∷◌, Option, Some, None}
use Rattle.py_ast.specs.declared.spelled.Sign.{Sign}
use Rattle.py_ast.specs.declared.spelled.Sign.TheVariants as sign
use Rattle.py_lexer.specs.declared.brackets.Bracket.{Bracket}
use Rattle.py_lexer.specs.declared.brackets.Bracket.TheVariants as bracket
use Rattle.py_lexer.specs.declared.brackets.Role.{Role}
use Rattle.py_lexer.specs.declared.brackets.Role.TheVariants as role

abbrev pub role_of : Sign → Role
role_of sign.LeftParen = role.Opens bracket.Round
role_of sign.LeftBracket = role.Opens bracket.Square
role_of sign.LeftBrace = role.Opens bracket.Curly
role_of sign.RightParen = role.Closes bracket.Round
role_of sign.RightBracket = role.Closes bracket.Square
role_of sign.RightBrace = role.Closes bracket.Curly
role_of _ = role.Plain

abbrev pub same_bracket : Bracket → Bracket → Bool
same_bracket bracket.Round bracket.Round = true
same_bracket bracket.Square bracket.Square = true
same_bracket bracket.Curly bracket.Curly = true
same_bracket _ _ = false

-- the brackets that are open behind a sign, the innermost first, if the sign may stand there
abbrev pub turn : Role → List Bracket → Option (List Bracket)
turn role.Plain open_ = Some open_
turn (role.Opens b) open_ = Some (b ∷ open_)
turn (role.Closes b) [] = None
turn (role.Closes b) (o ∷ open_) = if same_bracket b o then Some open_ else None
