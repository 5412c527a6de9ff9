-- The tokens of a script, and why it has none: its bytes are UTF-8, the characters are cut into pieces, the pieces stand in logical lines.
use Rattle.std.specs.Prelude.{◌≡◌, ℕ, List, Result, Ok, Err}
use Rattle.std.specs.Str.{IsUtf8, chars}
use Rattle.py_ast.specs.declared.token.Token.{Token}
use Rattle.py_lexer.specs.declared.refusals.LexEnd.{LexEnd}
use Rattle.py_lexer.specs.declared.refusals.LexEnd.TheVariants as end
use Rattle.py_lexer.specs.Pieces.{cut}
use Rattle.py_lexer.specs.LogicalLines.{listed}

-- the tokens of a text in UTF-8, or its first refusal
abbrev pub lexed : List ℕ → Result (List Token) LexEnd
lexed bytes = listed (cut (chars bytes))

-- these are the tokens of the script
pub record Tokens (bytes : List ℕ) (tokens : List Token) : Type 0 where
  pub utf8 : IsUtf8 bytes
  pub lexed_ : lexed bytes ≡ Ok tokens

-- the script has no tokens, for this reason; want of memory says nothing
abbrev pub Refuses : List ℕ → LexEnd → Type 0
Refuses bytes end.Utf8 = IsUtf8 bytes → ⊥
Refuses bytes end.Memory = Unit {0}
Refuses bytes e = IsUtf8 bytes × lexed bytes ≡ Err e
