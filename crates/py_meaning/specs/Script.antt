-- What a script means: the run of the built-in text, if there is one, and then of the script.
use Rattle.std.specs.Prelude.{ℕ, List, ◌++◌, length, Option, Some, None}
use Rattle.nu_run.specs.Runs.{Run}
use Rattle.op_forms.specs.Rules.{Rules}
use Rattle.py_ast.specs.declared.scoped.Scoped.{Scoped}
use Rattle.py_meaning.specs.Syntax as syntax
use Rattle.py_meaning.specs.Bodies.{codes_run}
use Rattle.py_meaning.specs.Resolved.{codes_of}

-- the codes of the script, and behind them those of the built-in text
abbrev pub all_codes : Scoped → Option Scoped → List syntax.Code
all_codes script None = codes_of 0 script
all_codes script (Some text) = codes_of 0 script ++ codes_of (length script.scopes) text

-- the run of a script of this file name over an input, within a bound
abbrev pub py_run : Rules → List ℕ → Scoped → Option Scoped → List ℕ → ℕ → Run
py_run rules name script text = codes_run rules name (length script.scopes) (all_codes script text)
