-- What statements read.
use Rattle.std.specs.Prelude.{Option, Some, None, Bool, true, false}
use Rattle.nu_value.specs.declared.value.Value.{Value}
use Rattle.nu_value.specs.declared.value.Value.TheVariants as value
use Rattle.nu_value.specs.View.{is_text}
use Rattle.c_meaning.specs.declared.program.Stored.{Stored}
use Rattle.c_meaning.specs.declared.program.Stored.TheVariants as stored

-- whether the copy of it is one of a text
abbrev pub takes_text : Option Value → Bool
takes_text None = false
takes_text (Some v) = is_text v

abbrev pub bool_of : Option Value → Option Bool
bool_of (Some (value.Bool b)) = Some b
bool_of other = None

-- a store that waits for a value, and at which an exception may be raised
abbrev pub waits : Stored → Bool
waits (stored.Operation o at arguments fail) = true
waits (stored.Sent at fail) = true
waits other = false
