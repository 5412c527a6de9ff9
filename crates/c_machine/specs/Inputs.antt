-- What asks for a line of the input, and what is taken of the input.
use Rattle.std.specs.Prelude.{◌≡◌, ◌<◌, ◌≤◌, ℕ, List, [], ◌++◌, Option, Some, None, Bool, true, false, length}
use Rattle.nu_run.specs.declared.End.{End}
use Rattle.nu_run.specs.Steps.{Stepped, More}
use Rattle.op_forms.specs.declared.end.OpEnd.{OpEnd}
use Rattle.op_forms.specs.declared.end.OpEnd.TheVariants as opend
use Rattle.op_forms.specs.Answers.{Answer}
use Rattle.op_rules.specs.TableRules.{table_rules}
use Rattle.c_meaning.specs.declared.program.Statement.{Statement}
use Rattle.c_meaning.specs.declared.program.Statement.TheVariants as statement
use Rattle.c_meaning.specs.declared.program.Stored.{Stored}
use Rattle.c_meaning.specs.declared.program.Stored.TheVariants as stored
use Rattle.c_meaning.specs.declared.code.Code.{Code}
use Rattle.c_meaning.specs.declared.code.Placed.{Placed}
use Rattle.c_meaning.specs.State.{State}
use Rattle.c_meaning.specs.Step.{placed_at, step, values}
use Rattle.c_input.specs.declared.input.Buffer.{Buffer}
use Rattle.c_input.specs.Lines.{is_whole}
use Rattle.c_stack.specs.declared.execution.Execution.{Execution}
use Rattle.c_stack.specs.Standing.{Outside, Standing, follows, state_of, stands}
use Rattle.c_machine.specs.Effects.{answered}
use Rattle.c_machine.specs.Walks.{gone}

-- ASKS

abbrev pub is_line : OpEnd → Bool
is_line opend.Line = true
is_line other = false

abbrev pub answers_line : Option Answer → Bool
answers_line None = false
answers_line (Some a) = is_line a.end

abbrev pub store_asks : Execution → Stored → Bool
store_asks x (stored.Operation o at arguments fail) = answers_line (answered x.world o (values x.running.registers arguments))
store_asks x other = false

abbrev pub statement_asks : Execution → Statement → Bool
statement_asks x (statement.Store to what) = store_asks x what
statement_asks x other = false

abbrev pub placed_asks : Execution → Option Placed → Bool
placed_asks x None = false
placed_asks x (Some p) = statement_asks x p.statement

-- the next statement asks for a line
abbrev pub asks : Code → Execution → Bool
asks c x = placed_asks x (placed_at c x.running)

-- INPUTS

-- what can follow the bytes that were taken: nothing where the end of the input was seen
abbrev pub Follows : Buffer → List ℕ → Type 0
Follows lines rest = lines.ended ≡ true → rest ≡ []

-- so much was printed, and this input is left
abbrev pub over : List ℕ → List ℕ → Outside
over printed input = record { printed = printed; input = input }

-- a line was read, over each input that begins with what the buffer had and what was taken
pub record IsRead (after : Outside → Stepped State) (old new : Buffer) (taken : List ℕ) (x : Execution) (end : Option End) : Type 0 where
  pub leads : (printed rest : List ℕ) → Follows new rest → after (over printed (old.left ++ (taken ++ rest))) ≡ follows end x (over printed (new.left ++ rest))

-- One of n steps, the last that took of the input, asks for a line. What the run's input was then begins with bytes whose first line
-- isn't whole; behind them at most one take was made.
pub record LastAsk (c : Code) (n : ℕ) (begin : Standing) (old new : Buffer) (taken : List ℕ) : Type 0 where
  pub before : ℕ
  pub within : before < n
  pub asking : Execution
  pub asked : asks c asking ≡ true
  pub printed : List ℕ
  pub front : List ℕ
  pub chunk : List ℕ
  pub part : is_whole front ≡ false
  pub few : length chunk ≤ 4096
  pub leads : (rest : List ℕ) → Follows new rest
      → gone (step table_rules c) before (stands begin (over [] (old.left ++ (taken ++ rest)))) ≡ More (state_of asking (over printed (front ++ (chunk ++ rest))))
