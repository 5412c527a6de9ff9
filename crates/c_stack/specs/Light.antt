-- Stores and saves that take no memory.
use Rattle.std.specs.Prelude.{ℕ, Option, Bool, true, false, not, ◌&&◌, nat_lt, length, slice_get}
use Rattle.std.specs.Option.{option_flatten}
use Rattle.nu_value.specs.declared.value.Value.{Value}
use Rattle.nu_value.specs.View.{is_text}
use Rattle.c_meaning.specs.declared.program.Stored.{Stored}
use Rattle.c_meaning.specs.declared.program.Stored.TheVariants as stored
use Rattle.c_meaning.specs.declared.state.Activation.{Activation}
use Rattle.c_meaning.specs.declared.state.Purpose.{Purpose}
use Rattle.c_meaning.specs.declared.state.Purpose.TheVariants as purpose
use Rattle.c_meaning.specs.declared.state.Told.TheVariants as told
use Rattle.c_meaning.specs.Step.{operand_value}
use Rattle.c_stack.specs.Values.{takes_text}

-- what was sent is no text; what was thrown takes an entry
abbrev pub is_sent_plain : Purpose → Bool
is_sent_plain (purpose.Resume g (told.Sent v) closing number) = not (is_text v)
is_sent_plain (purpose.Resume g (told.Thrown e) closing number) = false
is_sent_plain other = true

abbrev pub is_light_store : Activation → Stored → Bool
is_light_store a (stored.Value operand) = not (takes_text (operand_value a.registers operand))
is_light_store a (stored.Parameter n) = not (takes_text (slice_get a.arguments n))
is_light_store a (stored.Free n) = not (takes_text (slice_get a.cells n))
is_light_store a (stored.Load slot) = not (takes_text (option_flatten (slice_get a.slots slot)))
is_light_store a (stored.Sent line fail) = is_sent_plain a.purpose
is_light_store a (stored.Operation o at arguments fail) = false
is_light_store a other = true

-- a save that copies a text
abbrev pub saves_text : Activation → ℕ → Option Value → Bool
saves_text a slot v = nat_lt slot (length a.slots) && takes_text v
