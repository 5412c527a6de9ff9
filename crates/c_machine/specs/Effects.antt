-- What operations come to, and how functions end.
use Rattle.std.specs.Prelude.{ℕ, List, [], Option, Some, None, Bool, true, false, if◌then◌else◌, slice_get}
use Rattle.nu_value.specs.declared.object.Object.{Object}
use Rattle.nu_value.specs.declared.object.Object.TheVariants as object
use Rattle.nu_value.specs.declared.value.Value.{Value}
use Rattle.nu_value.specs.declared.value.Value.TheVariants as value
use Rattle.op_forms.specs.declared.op.Op.{Op}
use Rattle.op_forms.specs.declared.world.World.{World}
use Rattle.op_forms.specs.Fits.{fits}
use Rattle.op_forms.specs.Answers.{Answer, after}
use Rattle.op_rules.specs.Table.{row}
use Rattle.op_rules.specs.TableRules.{table_rules}
use Rattle.nu_rows.specs.Rows.{End}
use Rattle.nu_calls.specs.Surroundings.{Scene, scene, with_scene, with_frames}
use Rattle.nu_calls.specs.Ends as ends
use Rattle.c_meaning.specs.declared.state.Activation.{Activation}
use Rattle.c_meaning.specs.declared.state.Kept.{Kept}
use Rattle.c_meaning.specs.declared.state.Purpose.{Purpose}
use Rattle.c_meaning.specs.declared.state.Purpose.TheVariants as purpose
use Rattle.c_meaning.specs.declared.state.Uncaught.{Uncaught}
use Rattle.c_meaning.specs.State.{State}
use Rattle.c_ends.specs.Outcomes.{is_plain}

-- OPERATIONS

-- the table's answer, if all arguments have values that fit
abbrev pub answered : World → Op → Option (List Value) → Option Answer
answered w o None = None
answered w o (Some args) = if fits o w args then Some (row o w args) else None

abbrev pub after_answer : World → Option Answer → World
after_answer w None = w
after_answer w (Some answer) = after w answer

-- FUNCTIONS THAT END

abbrev pub is_module : Purpose → Bool
is_module purpose.Module = true
is_module other = false

abbrev pub is_plain_call : Purpose → Bool
is_plain_call (purpose.Call after) = is_plain after
is_plain_call other = false

-- what the code that began a body has of how it ended
abbrev pub ending_by : Purpose → Scene → End → ends.Ending
ending_by purpose.Module a e = ends.ending a ends.Unsaid
ending_by (purpose.Call after) a e = ends.call_ended table_rules after a e
ending_by (purpose.Resume g what closing number) a e = ends.generator_ended a g closing e

-- the generator that runs, and whether it is being closed
abbrev pub resumer_of : Purpose → Option (ℕ × Bool)
resumer_of (purpose.Resume g what closing number) = Some (g, closing)
resumer_of other = None

-- what a paused generator keeps of its activation
abbrev pub kept_by : Activation → ℕ → Kept
kept_by a number = record { function = a.function; arguments = a.arguments; cells = a.cells; slots = a.slots; number = number }

-- UNCAUGHT EXCEPTIONS

abbrev pub is_function : Option Object → Bool
is_function (Some (object.Function code defaults keywords cells)) = true
is_function other = false

abbrev pub function_if : ℕ → Option Object → Option ℕ
function_if n (Some (object.Function code defaults keywords cells)) = Some n
function_if n other = None

-- the number of a value that is a function of these objects
abbrev pub function_in : List Object → Option Value → Option ℕ
function_in heap (Some (value.Obj n)) = function_if n (slice_get heap n)
function_in heap other = None

-- a state in which an exception left the module
abbrev pub left_alone : State → Uncaught → State
left_alone s u = record { running = s.running; below = []; around = with_scene s.around (with_frames (scene s.around) 0); uncaught = Some u; printed = s.printed }
