-- Statements that take no memory: stores, arguments, free cells, jumps, branches, saves, loads, what was sent, and returns, where no
-- text is copied.
use Rattle.std.specs.Prelude.{◌≡◌, ◌<◌, ℕ, List, ◌∷◌, Option, Some, None, Bool, true, false, not, ◌&&◌, nat_eq, is_none}
use Rattle.nu_run.specs.Steps.{More}
use Rattle.op_forms.specs.declared.end.After.TheVariants as after
use Rattle.op_rules.specs.TableRules.{table_rules}
use Rattle.c_meaning.specs.declared.program.Statement.{Statement}
use Rattle.c_meaning.specs.declared.program.Statement.TheVariants as statement
use Rattle.c_meaning.specs.declared.code.Placed.{Placed}
use Rattle.c_meaning.specs.declared.code.Code.{Code}
use Rattle.c_meaning.specs.declared.state.Activation.{Activation}
use Rattle.c_meaning.specs.declared.state.Purpose.{Purpose}
use Rattle.c_meaning.specs.declared.state.Purpose.TheVariants as purpose
use Rattle.c_meaning.specs.Step.{operand_value, placed_at, step}
use Rattle.c_stack.specs.declared.execution.Execution.{Execution}
use Rattle.c_stack.specs.Light.{is_light_store, saves_text}
use Rattle.c_stack.specs.Standing.{Outside, Standing, state_of, stands, printing}
use Rattle.c_stack.specs.Values.{takes_text}
use Rattle.c_machine.specs.Effects.{resumer_of}
use Rattle.c_machine.specs.Walks.{gone}

-- A call whose value goes on as it is. The module of the built-in text is followed by the script, whose registers take memory;
-- the script, function 0, by nothing.
abbrev pub returns_lightly : Purpose → ℕ → List Activation → Bool
returns_lightly purpose.Module f below = nat_eq f 0
returns_lightly (purpose.Call after.Plain) f (w ∷ below) = true
returns_lightly other f below = false

abbrev pub is_light_return : Execution → Bool
is_light_return x = returns_lightly x.running.purpose x.running.function x.below

abbrev pub is_light_statement : Execution → Statement → Bool
is_light_statement x (statement.Store to what) = is_light_store x.running what
is_light_statement x (statement.Goto label) = true
is_light_statement x (statement.Branch test label) = true
is_light_statement x (statement.Again exception label) = not (takes_text (operand_value x.running.registers exception))
is_light_statement x (statement.Give a) = is_light_return x && not (takes_text (operand_value x.running.registers a))
is_light_statement x statement.End = is_light_return x
is_light_statement x statement.Fail = false
is_light_statement x (statement.Save slot a) = not (saves_text x.running slot (operand_value x.running.registers a))
is_light_statement x (statement.Pause number a) = is_none (resumer_of x.running.purpose)
is_light_statement x other = true

abbrev pub is_light : Execution → Option Placed → Bool
is_light x None = true
is_light x (Some p) = is_light_statement x p.statement

-- each of the next n statements takes no memory
abbrev pub IsLightFor : Code → ℕ → Standing → Type 0
IsLightFor c n a =
    (t : ℕ) (x : Execution) (piece : List ℕ) → t < n → ((w : Outside) → gone (step table_rules c) t (stands a w) ≡ More (state_of x (printing w piece))) → is_light x (placed_at c x.running) ≡ true
