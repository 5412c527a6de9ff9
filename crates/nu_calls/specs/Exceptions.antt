-- Exceptions: how they are made, their entries and classes (reference, section 8.4; library reference, exceptions).
use Rattle.std.specs.Prelude.{ℕ, zero, suc, List, [], ◌∷◌, ◌++◌, Option, Some, None, Bool, true, false, if◌then◌else◌, length, slice_get, slice_set}
use Rattle.std.specs.Str.{bytes_eq}
use Rattle.nu_value.specs.declared.entries.Entry.{Entry}
use Rattle.nu_value.specs.declared.natives.Native.{Native}
use Rattle.nu_value.specs.declared.object.Object.{Object}
use Rattle.nu_value.specs.declared.object.Object.TheVariants as object
use Rattle.nu_value.specs.declared.value.Value.{Value}
use Rattle.nu_value.specs.Classes.{is_under}
use Rattle.nu_value.specs.Natives.{name_of, natives}

-- the number of a class that no script makes is its place among them
abbrev pub place_among : List ℕ → List Native → ℕ
place_among name [] = 0
place_among name (n ∷ ns) = if bytes_eq (name_of n) name then 0 else suc (place_among name ns)

abbrev pub class_number : Native → ℕ
class_number n = place_among (name_of n) natives

-- an exception, and the objects with it
pub record Thrown : Type 0 where
  pub exception : ℕ
  pub heap : List Object

abbrev pub made_of : ℕ → List Value → List Object → Option Object → Thrown
made_of n args h (Some (object.Class name base own native)) =
    record { exception = length h; heap = h ++ object.Exception n args [] [] None ∷ [] }
made_of n args h other = record { exception = n; heap = h }

-- a new exception of a class, or the exception itself
abbrev pub exception_made : ℕ → List Value → List Object → Thrown
exception_made n args h = made_of n args h (slice_get h n)

abbrev pub entered : Entry → Option Object → Option Object
entered entry (Some (object.Exception class args entries fields cause)) = Some (object.Exception class args (entry ∷ entries) fields cause)
entered entry other = None

abbrev pub put_back : List Object → ℕ → Option Object → List Object
put_back h n None = h
put_back h n (Some o) = slice_set h n o

-- An entry in front of those that the exception has. Functions of the built-in text put none.
abbrev pub with_entry : Bool → ℕ → List ℕ → ℕ → List Object → List Object
with_entry true line scope n h = h
with_entry false line scope n h = put_back h n (entered (record { line = line; scope = scope }) (slice_get h n))

abbrev pub class_of : Option Object → Option ℕ
class_of (Some (object.Exception class args entries fields cause)) = Some class
class_of other = None

-- the exception of this number is one of a class, or of one under it
abbrev pub is_kind : List Object → ℕ → ℕ → Bool
is_kind h e class = is_under h (class_of (slice_get h e)) class

abbrev pub entries_of : Option Object → List Entry
entries_of (Some (object.Exception class args entries fields cause)) = entries
entries_of other = []
