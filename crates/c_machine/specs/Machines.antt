-- What contracts see of a machine.
use Rattle.std.specs.Prelude.{◌≡◌, ℕ, List, [], Bool, true, false, Option, Some, None, Result, Ok, Err}
use Rattle.nu_run.specs.declared.End.{End}
use Rattle.nu_run.specs.Runs.{Run}
use Rattle.nu_run.specs.Steps.{on_step, run}
use Rattle.op_rules.specs.TableRules.{table_rules}
use Rattle.c_meaning.specs.declared.code.Code.{Code}
use Rattle.c_meaning.specs.declared.program.CProgram as program
use Rattle.c_meaning.specs.Code.{code_of}
use Rattle.c_meaning.specs.State.{printed_in}
use Rattle.c_meaning.specs.Step.{step}
use Rattle.c_meaning.specs.Run.{start, c_run}
use Rattle.c_machine.specs.declared.ending.Stepped.{Stepped as Answer}
use Rattle.c_machine.specs.declared.ending.Stepped.TheVariants as answer
use Rattle.c_machine.specs.declared.ending.Trouble.{Trouble}
use Rattle.c_machine.specs.declared.ending.Trouble.TheVariants as trouble
use Rattle.c_input.specs.declared.input.Buffer.{Buffer}
use Rattle.c_stack.specs.Standing.{Standing, stands}

-- the code that it runs, where the run stands, what was taken of the input for its next lines, how many steps it took, and whether a
-- call answered a trouble
pub record Seen : Type 0 where
  pub code : Code
  pub standing : Standing
  pub lines : Buffer
  pub steps : ℕ
  pub failed : Bool

-- what a machine that can take no step answers: one that failed, and one whose run has ended
abbrev pub rest_of : Bool → Option End → Option (Result Answer Trouble)
rest_of true end = Some (Err trouble.Failed)
rest_of false (Some e) = Some (Ok answer.Ended)
rest_of false None = None

abbrev pub answer_at_rest : Seen → Option (Result Answer Trouble)
answer_at_rest m = rest_of m.failed m.standing.end

-- what a machine has printed and how it has ended after so many more steps, over the input that is left
abbrev pub run_from : Seen → List ℕ → ℕ → Run
run_from m input n = on_step (stands m.standing (record { printed = []; input = input })) (run (step table_rules m.code) printed_in n)

-- the machine is in the program's first state, so that its runs are those of the program
pub record IsFresh (m : Seen) (p : program.CProgram) : Type 0 where
  pub holds : m.code ≡ code_of p
  pub first : (input : List ℕ) → stands m.standing (record { printed = []; input = input }) ≡ start table_rules p input
  pub runs : (input : List ℕ) (n : ℕ) → run_from m input n ≡ c_run table_rules p input n
  pub lines : m.lines ≡ record { left = []; ended = false }
  pub steps : m.steps ≡ 0
  pub works : m.failed ≡ false
