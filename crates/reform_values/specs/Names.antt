-- Where operations take a bare name.
use Rattle.std.specs.Prelude.{List, Bool, false, ℕ, Option, Some, None, slice_get}
use Rattle.op_forms.specs.declared.signature.ArgumentKind.{ArgumentKind}
use Rattle.carried_codes.specs.Operations.{is_name}

abbrev pub names : Option ArgumentKind → Bool
names (Some kind) = is_name kind
names None = false

-- at this place
abbrev pub names_at : List ArgumentKind → ℕ → Bool
names_at kinds place = names (slice_get kinds place)
