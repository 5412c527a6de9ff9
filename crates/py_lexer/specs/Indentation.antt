-- Indentation (reference, section 2.1.8): a line's leading blanks, compared as strings with the levels that the lines before it leave.
use Rattle.std.specs.Prelude.{ℕ, ◌+◌, ◌-◌, Bool, ◌==◌, if◌then◌else◌, List, [], ◌∷◌, ◌++◌, length, take, Option, Some, None, Result, Ok, Err, position, replicate, slice_index_or}
use Rattle.std.specs.Str.{bytes_eq}
use Rattle.py_ast.specs.declared.token.Token.{Token}
use Rattle.py_ast.specs.declared.token.TokenKind.{TokenKind}
use Rattle.py_ast.specs.declared.token.TokenKind.TheVariants as kind
use Rattle.py_lexer.specs.declared.refusals.LexEnd.{LexEnd}
use Rattle.py_lexer.specs.declared.refusals.LexEnd.TheVariants as end

abbrev pub at : ℕ → TokenKind → Token
at line k = record { line = line; kind = k }

-- the innermost level; below all levels stands the empty indentation, which is none
abbrev pub top : List (List ℕ) → List ℕ
top levels = slice_index_or levels (length levels - 1) []

abbrev pub is_front : List ℕ → List ℕ → Bool
is_front a b = bytes_eq a (take (length a) b)

-- where a logical line starts, and its leading blanks
pub record Start : Type 0 where
  pub line : ℕ
  pub blank : List ℕ

-- the levels behind a line's indentation, the outermost first, and the tokens that it gives
pub record Entered : Type 0 where
  pub levels : List (List ℕ)
  pub tokens : List Token

abbrev pub one_more : Option ℕ → Option ℕ
one_more None = None
one_more (Some n) = Some (n + 1)

-- how many levels are left where an indentation equals one of them, or is empty
abbrev pub kept : List (List ℕ) → List ℕ → Option ℕ
kept levels blank = if length blank == 0 then Some 0 else one_more (position (λ level. bytes_eq level blank) levels)

abbrev pub popped : List (List ℕ) → ℕ → ℕ → Option ℕ → Result Entered LexEnd
popped levels line first None = Err (end.Indent line)
popped levels line first (Some n) = Ok (record { levels = take n levels; tokens = replicate (length levels - n) (at first kind.Dedent) })

-- An indentation that equals the innermost level gives nothing. One that goes on from it is a new level, with an INDENT.
-- One that equals a level further out leaves that one, with a DEDENT for each level that ends. Any other is refused.
unfoldable pub enter : List (List ℕ) → Start → ℕ → Result Entered LexEnd
enter levels start first =
    if bytes_eq start.blank (top levels) then Ok (record { levels = levels; tokens = [] })
    else (if is_front (top levels) start.blank then Ok (record { levels = levels ++ start.blank ∷ []; tokens = at first kind.Indent ∷ [] })
    else popped levels start.line first (kept levels start.blank))
