-- The runs of programs.
use Rattle.std.specs.Prelude.{ℕ, List, [], map, length, nat_lt, None, if◌then◌else◌}
use Rattle.nu_run.specs.Runs.{Run}
use Rattle.nu_run.specs.Steps.{Stepped, on_step, run}
use Rattle.nu_value.specs.declared.header.Header.{Header}
use Rattle.op_forms.specs.Rules.{Rules}
use Rattle.c_meaning.specs.declared.code.Code.{Code}
use Rattle.c_meaning.specs.declared.program.Function as function
use Rattle.c_meaning.specs.declared.program.CProgram as program
use Rattle.c_meaning.specs.declared.state.Purpose.TheVariants as purpose
use Rattle.c_meaning.specs.Code.{code_of}
use Rattle.c_meaning.specs.State.{State, printed_in}
use Rattle.c_meaning.specs.Step.{module_begins, step}

abbrev pub header_of : function.Function → Header
header_of f = f.header

-- before any function has begun
abbrev pub blank : Rules → List Header → List ℕ → State
blank rules headers input = record {
  running = record { function = 0; place = 0; registers = []; slots = []; arguments = []; cells = []; pending = None; purpose = purpose.Module };
  below = [];
  around = record { world = rules.start headers; kept = []; input = input; frames = 0 };
  uncaught = None;
  printed = [];
}

-- the module of the built-in text, if there is one, stands behind the script's functions, and runs first
abbrev pub begins_first : Rules → Code → State → Stepped State
begins_first rules c s = module_begins rules c s (if nat_lt c.scripts (length c.bodies) then c.scripts else 0)

abbrev pub start : Rules → program.CProgram → List ℕ → Stepped State
start rules p input = begins_first rules (code_of p) (blank rules (map header_of p.functions) input)

-- the run of a program over an input, of at most so many statements
abbrev pub c_run : Rules → program.CProgram → List ℕ → ℕ → Run
c_run rules p input m = on_step (start rules p input) (run (step rules (code_of p)) printed_in m)
