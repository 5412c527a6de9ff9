-- Where a machine's run stands.
use Rattle.std.specs.Prelude.{ℕ, ◌+◌, List, ◌++◌, Option, Some, None, length}
use Rattle.nu_run.specs.declared.End.{End}
use Rattle.nu_run.specs.Steps.{Stepped, More, Halt}
use Rattle.nu_calls.specs.Surroundings.{Scene, scene}
use Rattle.c_meaning.specs.State.{State}
use Rattle.c_stack.specs.declared.execution.Execution.{Execution}

-- what is outside of a machine: all that was printed, and the input that is left
pub record Outside : Type 0 where
  pub printed : List ℕ
  pub input : List ℕ

-- with more printed
abbrev pub printing : Outside → List ℕ → Outside
printing w text = record { printed = w.printed ++ text; input = w.input }

-- the state of the run: the functions that run and wait are the live frames
abbrev pub state_of : Execution → Outside → State
state_of x w = record {
  running = x.running;
  below = x.below;
  around = record { world = x.world; kept = x.kept; input = w.input; frames = length x.below + 1 };
  uncaught = x.uncaught;
  printed = w.printed;
}

abbrev pub scene_of : Execution → Outside → Scene
scene_of x w = scene (state_of x w).around

-- the state that follows, or the end
abbrev pub follows : Option End → Execution → Outside → Stepped State
follows None x w = More (state_of x w)
follows (Some e) x w = Halt w.printed e

-- an execution, and the end of its run, if there is one
pub record Standing : Type 0 where
  pub execution : Execution
  pub end : Option End

abbrev pub stands : Standing → Outside → Stepped State
stands s w = follows s.end s.execution w
