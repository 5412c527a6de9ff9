-- The keys of a dict, place by place.
use Rattle.std.specs.Prelude.{Option, Some, None, List, Bool, true}
use Rattle.nu_value.specs.declared.key.Atom.{Atom}
use Rattle.nu_value.specs.declared.value.Value.{Value}
use Rattle.nu_value.specs.View.{is_text}

-- whether the key at a place is a text, if there is one
abbrev pub text_at : Option (List Atom × Value × Value) → Bool
text_at None = true
text_at (Some p) = is_text p.1
