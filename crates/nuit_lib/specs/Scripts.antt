-- Scripts: bytes with a tree and its scopes, and which of them are built.
use Rattle.std.specs.Prelude.{◌≡◌, ℕ, ◌≤◌, List, length, None}
use Rattle.py_ast.specs.declared.scoped.Scoped.{Scoped}
use Rattle.py_ast.specs.declared.stmt.Script.{Script}
use Rattle.py_ast.specs.declared.token.Token.{Token}
use Rattle.py_lexer.specs.Script.{Tokens}
use Rattle.py_statements.specs.Nesting.{Shallow}
use Rattle.py_statements.specs.Script.{Tree}
use Rattle.py_scopes.specs.Resolve.{scopes_of}
use Rattle.py_scopes.specs.Rules.{KeepsAll}
use Rattle.py_scopes.specs.Survey.{surveyed}
use Rattle.reform_all.specs.Built.{first_unbuilt}

-- the bytes are a script with this tree
pub record IsTree (bytes : List ℕ) (s : Script) : Type 0 where
  pub tokens : List Token
  pub lexed : Tokens bytes tokens
  pub shallow : Shallow tokens
  pub tree : Tree tokens s

-- a script that keeps every static rule, with its scopes
pub record IsResolved (s : Scoped) : Type 0 where
  pub keeps : KeepsAll (surveyed s.script.statements)
  pub scopes : s.scopes ≡ scopes_of (surveyed s.script.statements)

-- the bytes are such a script
pub record IsScript (bytes : List ℕ) (s : Scoped) : Type 0 where
  pub is : IsTree bytes s.script
  pub resolved : IsResolved s

-- Accepted: the bytes are a script that keeps every static rule, and nothing in it is not built yet
pub record Accepted (bytes : List ℕ) : Type 0 where
  pub short : length bytes ≤ 262144
  pub tree : Script
  pub is : IsTree bytes tree
  pub keeps : KeepsAll (surveyed tree.statements)
  pub built : first_unbuilt tree.statements ≡ None
