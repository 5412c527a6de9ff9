-- The codes of accepted scripts have headings.
use Rattle.std.specs.Prelude.{ℕ, List, Some, None, Ok}
use Rattle.std.specs.List.{AllByRecursion}
use Rattle.py_ast.specs.declared.scoped.Scoped.{Scoped}
use Rattle.py_ast.specs.declared.stmt.Script.{Script}
use Rattle.py_ast.specs.declared.token.Token.{Token}
use Rattle.py_lexer.specs.Script.{Tokens}
use Rattle.py_statements.specs.Script.{Tree}
use Rattle.py_scopes.specs.Resolve.{Answers, AnswersBuiltIn}
use Rattle.py_meaning.specs.Syntax as syntax
use Rattle.py_meaning.specs.Script.{all_codes}
use Rattle.generator_cut.specs.Writable.{IsHeading}

-- the bytes are a script with this tree
pub record IsRead (bytes : List ℕ) (script : Script) : Type 0 where
  pub tokens : List Token
  pub lexed : Tokens bytes tokens
  pub tree : Tree tokens script

abbrev pub HaveHeadings : List syntax.Code → Type 0
HaveHeadings codes = AllByRecursion (λ (code : syntax.Code). IsHeading code.header) codes

-- so it is with scripts that are read and keep the static rules, alone or with a built-in text behind them
pub record AcceptedScriptsHaveHeadings : Type 0 where
  pub alone : (bytes : List ℕ) (script : Script) (scoped : Scoped) → IsRead bytes script → Answers script (Ok scoped) → HaveHeadings (all_codes scoped None)
  pub with_text : (bytes : List ℕ) (script : Script) (scoped : Scoped) (others : List ℕ) (text : Script) (behind : Scoped)
      → IsRead bytes script → Answers script (Ok scoped) → IsRead others text → AnswersBuiltIn text (Ok behind) → HaveHeadings (all_codes scoped (Some behind))
