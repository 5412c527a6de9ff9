-- Why a script lies outside the profile: the first of these kinds, in the order of `Kind`, whose rule it breaks.
use Rattle.std.specs.Prelude.{◌≡◌, ℕ, List, Some}
use Rattle.py_ast.specs.declared.token.Token.{Token}
use Rattle.py_ast.specs.declared.stmt.Script.{Script}
use Rattle.py_lexer.specs.declared.refusals.LexEnd.TheVariants as lexer
use Rattle.py_lexer.specs.Script.{Tokens}
use Rattle.py_lexer.specs.Script.{Refuses as HasNoTokens}
use Rattle.py_statements.specs.Nesting.{Shallow, Deep}
use Rattle.py_statements.specs.Script.{Tree}
use Rattle.py_scopes.specs.Survey.{surveyed}
use Rattle.py_scopes.specs.Rules.{Refuses, KeepsAll}
use Rattle.py_scopes.specs.Rules as rules
use Rattle.nuit_lib.specs.declared.refusal.Kind.{Kind}
use Rattle.nuit_lib.specs.declared.refusal.Kind.TheVariants as kind
use Rattle.reform_all.specs.Built.{first_unbuilt}
use Rattle.nuit_lib.specs.Scripts.{IsTree, Accepted}

-- there are tokens, and in this line one first has too many brackets and indentation levels open
pub record IsDeep (bytes : List ℕ) (line : ℕ) : Type 0 where
  pub tokens : List Token
  pub lexed : Tokens bytes tokens
  pub deep : Deep tokens line

-- there are tokens, none has too many open, and they spell no tree that is low enough
pub record HasNoTree (bytes : List ℕ) : Type 0 where
  pub tokens : List Token
  pub lexed : Tokens bytes tokens
  pub shallow : Shallow tokens
  pub none : (s : Script) → Tree tokens s → ⊥

-- there is a tree, and this is the first static rule of their table that it breaks anywhere, in this line for the first time
pub record BreaksRule (rule : rules.Kind) (bytes : List ℕ) (line : ℕ) : Type 0 where
  pub tree : Script
  pub is : IsTree bytes tree
  pub breaks : Refuses (surveyed tree.statements) rule line

-- there is a tree that keeps every static rule, and in this line is the first thing in it that is not built yet
pub record IsUnbuilt (bytes : List ℕ) (line : ℕ) : Type 0 where
  pub tree : Script
  pub is : IsTree bytes tree
  pub keeps : KeepsAll (surveyed tree.statements)
  pub other : first_unbuilt tree.statements ≡ Some line

-- the script has this refusal kind, in this line; bytes that are no UTF-8 count as line 1, and where there is no tree no line is said
abbrev pub IsRefused : List ℕ → Kind → ℕ → Type 0
IsRefused bytes kind.Utf8 line = HasNoTokens bytes lexer.Utf8 × (line ≡ 1)
IsRefused bytes kind.Token line = HasNoTokens bytes (lexer.Token line)
IsRefused bytes kind.Indent line = HasNoTokens bytes (lexer.Indent line)
IsRefused bytes kind.Number line = HasNoTokens bytes (lexer.Number line)
IsRefused bytes kind.Depth line = IsDeep bytes line
IsRefused bytes kind.Grammar line = HasNoTree bytes
IsRefused bytes kind.Target line = BreaksRule rules.Target bytes line
IsRefused bytes kind.Loop line = BreaksRule rules.Loop bytes line
IsRefused bytes kind.Function line = BreaksRule rules.Function bytes line
IsRefused bytes kind.Declare line = BreaksRule rules.Declare bytes line
IsRefused bytes kind.Name line = BreaksRule rules.Name bytes line
IsRefused bytes kind.Raise line = BreaksRule rules.Raise bytes line
IsRefused bytes kind.Repeat line = BreaksRule rules.Repeat bytes line
IsRefused bytes kind.Unbuilt line = IsUnbuilt bytes line

-- the script has a refusal kind
abbrev pub HasKind : List ℕ → Type 0
HasKind bytes = (kind : Kind) × (line : ℕ) × IsRefused bytes kind line

-- a script has one refusal kind at most, and none where it is accepted
pub record OneKind (bytes : List ℕ) : Type 0 where
  pub one : (k l : Kind) (m n : ℕ) → IsRefused bytes k m → IsRefused bytes l n → k ≡ l
  pub none : Accepted bytes → (k : Kind) (n : ℕ) → IsRefused bytes k n → ⊥
