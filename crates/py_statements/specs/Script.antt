-- The tree of a list of tokens, and what the parser answers.
use Rattle.std.specs.Prelude.{◌≡◌, ℕ, ◌≤◌, List, Result, Ok, Err}
use Rattle.py_ast.specs.declared.token.Token.{Token}
use Rattle.py_ast.specs.declared.stmt.Script.{Script}
use Rattle.py_grammar.specs.declared.found.ParseEnd.{ParseEnd}
use Rattle.py_grammar.specs.declared.found.ParseEnd.TheVariants as ends
use Rattle.py_grammar.specs.Grammar.{max_depth}
use Rattle.py_statements.specs.Grammar.{Statements}
use Rattle.py_statements.specs.Nesting.{Shallow, Deep}

-- the tokens spell the script, no deeper than is allowed
pub record Tree (tokens : List Token) (script : Script) : Type 0 where
  pub height : ℕ
  pub low : height ≤ max_depth
  pub spelled : Statements height script.statements tokens

-- the tree, where no token has too many brackets and indentation levels open; Depth exactly where one has, and Grammar exactly
-- where else there is no tree
abbrev pub Answers : List Token → Result Script ParseEnd → Type 0
Answers tokens (Ok script) = Shallow tokens × Tree tokens script
Answers tokens (Err (ends.Depth line)) = Deep tokens line
Answers tokens (Err (ends.Grammar line)) = Shallow tokens × ((script : Script) → Tree tokens script → ⊥)
Answers tokens (Err ends.Memory) = Unit {0}

-- tokens have at most one tree
abbrev pub OneTree : Type 0
OneTree = (tokens : List Token) (x y : Script) → Tree tokens x → Tree tokens y → x ≡ y

-- two answers that are the same, but for the line of Grammar; where memory ends there is none
abbrev pub Agree : Result Script ParseEnd → Result Script ParseEnd → Type 0
Agree (Ok x) (Ok y) = x ≡ y
Agree (Err (ends.Depth line)) (Err (ends.Depth other)) = line ≡ other
Agree (Err (ends.Grammar line)) (Err (ends.Grammar other)) = Unit {0}
Agree (Err ends.Memory) r = Unit {0}
Agree r (Err ends.Memory) = Unit {0}
Agree r q = ⊥

-- tokens have at most one answer
abbrev pub OneAnswer : Type 0
OneAnswer = (tokens : List Token) (r q : Result Script ParseEnd) → Answers tokens r → Answers tokens q → Agree r q
