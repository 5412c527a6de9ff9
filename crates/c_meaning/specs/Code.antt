-- What runs of a program: its statements by number, with the places to which their labels lead.
use Rattle.std.specs.Prelude.{ℕ, ◌+◌, List, [], ◌∷◌, map, Option, Some, None, if◌then◌else◌, nat_eq}
use Rattle.std.specs.Option.{option_and_then}
use Rattle.c_meaning.specs.declared.program.Stored.TheVariants as stored
use Rattle.c_meaning.specs.declared.program.Statement.{Statement}
use Rattle.c_meaning.specs.declared.program.Statement.TheVariants as statement
use Rattle.c_meaning.specs.declared.program.Line.{Line}
use Rattle.c_meaning.specs.declared.program.Line.TheVariants as line
use Rattle.c_meaning.specs.declared.program.Function as function
use Rattle.c_meaning.specs.declared.program.CProgram as program
use Rattle.c_meaning.specs.declared.code.Placed.{Placed}
use Rattle.c_meaning.specs.declared.code.Body.{Body}
use Rattle.c_meaning.specs.declared.code.Code.{Code}

-- the statements of a body, without the labels
abbrev pub statements_of : List Line → List Statement
statements_of [] = []
statements_of (line.Do s ∷ body) = s ∷ statements_of body
statements_of (line.Label label ∷ body) = statements_of body

-- the number of the statement behind a label, where the first of these lines' statements has the number n
abbrev pub goal_in : ℕ → List Line → ℕ → Option ℕ
goal_in n [] label = None
goal_in n (line.Do s ∷ body) label = goal_in (n + 1) body label
goal_in n (line.Label other ∷ body) label = if nat_eq other label then Some n else goal_in n body label

-- the one label of a statement
abbrev pub label_of : Statement → Option ℕ
label_of (statement.Store to (stored.Sent at fail)) = Some fail
label_of (statement.Store to (stored.Operation o at arguments fail)) = Some fail
label_of (statement.Goto label) = Some label
label_of (statement.Branch test label) = Some label
label_of (statement.Again exception label) = Some label
label_of other = None

abbrev pub cases_of : Statement → List ℕ
cases_of (statement.Switch labels) = labels
cases_of other = []

abbrev pub placed : List Line → Statement → Placed
placed body s = record { statement = s; goal = option_and_then (goal_in 0 body) (label_of s); cases = map (goal_in 0 body) (cases_of s) }

abbrev pub body_of : function.Function → Body
body_of f = record { slots = f.slots; registers = f.registers; statements = map (placed f.body) (statements_of f.body) }

abbrev pub code_of : program.CProgram → Code
code_of p = record { file = p.name; scripts = p.scripts; bodies = map body_of p.functions }
