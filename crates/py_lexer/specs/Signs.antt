-- Operators and delimiters (reference, sections 2.5 and 2.6).
use Rattle.std.specs.Prelude.{ℕ, if◌then◌else◌, List, [], ◌∷◌, Option, Some, None}
use Rattle.py_ast.specs.declared.spelled.Sign.{Sign}
use Rattle.py_ast.specs.Spelled.{sign_spelled, signs}
use Rattle.py_lexer.specs.Characters.{begins}

-- the first sign of the list that stands at the front
abbrev pub sign_of : List Sign → List ℕ → Option Sign
sign_of [] text = None
sign_of (s ∷ ss) text = if begins text (sign_spelled s) then Some s else sign_of ss text

-- the sign at the front, which is the longest since longer ones come first
abbrev pub sign_at : List ℕ → Option Sign
sign_at text = sign_of signs text
