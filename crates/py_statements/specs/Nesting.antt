-- How many brackets and indentation levels are open at once.
use Rattle.std.specs.Prelude.{◌≡◌, ℕ, ◌≤◌, ◌<◌, List, [], ◌∷◌, ◌++◌, fold, take, nat_lt, if◌then◌else◌, Option, Some, None}
use Rattle.py_ast.specs.declared.token.Token.{Token}
use Rattle.py_statements.specs.Words.{opened}

-- the most that may be open
abbrev pub max_nesting : ℕ
max_nesting = 100

-- how many are open behind the tokens
abbrev pub nesting : List Token → ℕ
nesting tokens = fold (λ n t. opened n t.kind) 0 tokens

-- no token has too many open
abbrev pub Shallow : List Token → Type 0
Shallow tokens = (n : ℕ) → nesting (take n tokens) ≤ max_nesting

-- the first token with too many open, which stands on this line
pub record Deep (tokens : List Token) (line : ℕ) : Type 0 where
  pub before : List Token
  pub token : Token
  pub rest : List Token
  pub cut : tokens ≡ before ++ token ∷ rest
  pub shallow : Shallow before
  pub many : max_nesting < nesting (before ++ token ∷ [])
  pub on : line ≡ token.line

-- the same as a function, where n are open before the tokens: what the code computes
abbrev pub too_deep : ℕ → List Token → Option ℕ
too_deep n [] = None
too_deep n (t ∷ ts) = if nat_lt max_nesting (opened n t.kind) then Some t.line else too_deep (opened n t.kind) ts
