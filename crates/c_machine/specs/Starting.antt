-- How a machine starts.
use Rattle.std.specs.Prelude.{ℕ, Option, map}
use Rattle.std.specs.Option.{option_and_then}
use Rattle.c_meaning.specs.declared.program.Statement.{Statement}
use Rattle.c_meaning.specs.declared.code.Placed.{Placed}
use Rattle.c_meaning.specs.Code.{label_of, cases_of}

-- a statement of a function whose labels lead to these statements
abbrev pub placed_by : (ℕ → Option ℕ) → Statement → Placed
placed_by goals s = record { statement = s; goal = option_and_then goals (label_of s); cases = map goals (cases_of s) }
