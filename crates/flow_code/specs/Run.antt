-- The runs of flat code. A place is the lines that are left.
use Rattle.std.specs.Prelude.{ℕ, List, [], ◌∷◌, map, length, Option, Some, None, Bool, true, false, nat_eq, nat_lt, if◌then◌else◌, slice_get}
use Rattle.nu_run.specs.declared.End.TheVariants as end
use Rattle.nu_run.specs.Runs.{Run}
use Rattle.nu_run.specs.Steps.{Stepped, Halt, on_step, run}
use Rattle.nu_value.specs.declared.header.Header.{Header}
use Rattle.nu_calls.specs.Surroundings.{Surroundings}
use Rattle.nu_calls.specs.Calls.{of_kind}
use Rattle.op_forms.specs.Rules.{Rules}
use Rattle.flow_code.specs.declared.function.FlatFunction.{FlatFunction}
use Rattle.flow_code.specs.declared.function.FlatScript.{FlatScript}
use Rattle.flow_code.specs.declared.statement.Line.{Line}
use Rattle.flow_code.specs.declared.statement.Line.TheVariants as line
use Rattle.flow_code.specs.declared.statement.Statement.{Statement}
use Rattle.flow_code.specs.Machine.{State, Waiting, Functions, Base, Builtins, Script, enters, step, printed}

-- the lines behind a label, or none
abbrev pub find : ℕ → List Line → List Line
find l [] = []
find l (line.Label k ∷ lines) = if nat_eq l k then lines else find l lines
find l (line.Do x ∷ lines) = find l lines

-- the first statement, and the lines behind it
abbrev pub first : List Line → Option (Statement × List Line)
first [] = None
first (line.Label k ∷ lines) = first lines
first (line.Do x ∷ lines) = Some (x, lines)

abbrev pub lines_of : Option FlatFunction → List Line
lines_of (Some f) = f.body
lines_of None = []

abbrev pub is_there : Bool → Option FlatFunction → Bool
is_there kind (Some f) = of_kind kind f.header.generator
is_there kind None = false

-- what stands before a function's body
abbrev pub header : FlatFunction → Header
header f = f.header

-- functions with the lines that are left as places, where `lines` gives those of each
abbrev pub with_lines : Rules → ℕ → List ℕ → List Header → (Bool → ℕ → Bool) → (ℕ → List Line) → Functions (List Line)
with_lines rules scripts file headers has lines = record {
  rules = rules;
  scripts = scripts;
  headers = headers;
  file = file;
  has = has;
  start = lines;
  label = λ c l. find l (lines c);
  fetch = λ c ls. first ls;
}

abbrev pub functions : Rules → FlatScript → Functions (List Line)
functions rules script = with_lines rules script.scripts script.name (map header script.functions) (λ kind c. is_there kind (slice_get script.functions c)) (λ c. lines_of (slice_get script.functions c))

abbrev pub start_around : {L : Type 0} → Functions L → List ℕ → Surroundings (Waiting L)
start_around m input = record { world = m.rules.start m.headers; kept = []; input = input; frames = 0 }

-- the module of the built-in text, if there is one, stands behind the script's functions, and runs first
abbrev pub begun : {L : Type 0} → Functions L → List ℕ → Stepped (State L)
begun m input =
    if nat_lt 0 m.scripts then (if nat_lt m.scripts (length m.headers) then enters m false m.scripts [] [] (Base Builtins) (start_around m input) [] else enters m false 0 [] [] (Base Script) (start_around m input) []) else Halt [] (end.Undefined 0 0)

-- the run of functions over an input
abbrev pub machine_run : {L : Type 0} → Functions L → List ℕ → ℕ → Run
machine_run m input n = on_step (begun m input) (run (step m) printed n)

abbrev pub flat_run : Rules → FlatScript → List ℕ → ℕ → Run
flat_run rules script input = machine_run (functions rules script) input
