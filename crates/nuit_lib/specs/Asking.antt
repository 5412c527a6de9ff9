-- Where a run asks for a line of the input, and what it takes of the input.
use Rattle.std.specs.Prelude.{◌≡◌, ◌⊎◌, ℕ, ◌<◌, ◌≤◌, List, ◌++◌, length, Option, Some, true, false}
use Rattle.nu_run.specs.Runs.{Going}
use Rattle.nu_run.specs.Steps.{More}
use Rattle.op_rules.specs.TableRules.{table_rules}
use Rattle.c_meaning.specs.declared.program.CProgram.{CProgram}
use Rattle.c_meaning.specs.Code.{code_of}
use Rattle.c_meaning.specs.Step.{step}
use Rattle.c_meaning.specs.Run.{start, c_run}
use Rattle.c_stack.specs.declared.execution.Execution.{Execution}
use Rattle.c_stack.specs.Standing.{state_of}
use Rattle.c_input.specs.Lines.{is_whole}
use Rattle.c_machine.specs.Inputs.{asks, over}
use Rattle.c_machine.specs.Walks.{gone}

-- after some steps, fewer than its bound, a run has printed this and asks for a line, where so much of its input is left
pub record AsksLine (p : CProgram) (input : List ℕ) (steps : ℕ) (printed left : List ℕ) : Type 0 where
  pub behind : ℕ
  pub fewer : behind < steps
  pub runs : c_run table_rules p input behind ≡ Going printed
  pub asking : Execution
  pub asked : asks (code_of p) asking ≡ true
  pub stands : gone (step table_rules (code_of p)) behind (start table_rules p input) ≡ More (state_of asking (over printed left))

-- a run asks for a line of which these bytes are a part alone, and behind them stand at most one take and then what was not taken
pub record AsksLast (p : CProgram) (input : List ℕ) (steps : ℕ) (printed front chunk rest : List ℕ) : Type 0 where
  pub part : is_whole front ≡ false
  pub few : length chunk ≤ 4096
  pub asks : AsksLine p input steps printed (front ++ (chunk ++ rest))

-- the last of the bytes that a run took of its input, so that this is left
pub record TakesForLine (p : CProgram) (input : List ℕ) (steps : ℕ) (after : Option (List ℕ)) : Type 0 where
  pub printed : List ℕ
  pub front : List ℕ
  pub chunk : List ℕ
  pub rest : List ℕ
  pub is_left : after ≡ Some rest
  pub last : AsksLast p input steps printed front chunk rest

-- a run leaves the input as it was, or takes the last of it while it asks for a line that isn't whole: fewer than 4,096 bytes past it
abbrev pub TakesFew : {A : Type 0} → CProgram → List ℕ → ℕ → A → A → Option (List ℕ) → Type 0
TakesFew p input steps old new after = (new ≡ old) ⊎ TakesForLine p input steps after
