-- Values as keys of dicts (reference, section 6.2.7, and glossary, "hashable").
use Rattle.std.specs.Prelude.{ℕ, zero, suc, List, [], ◌∷◌, ◌++◌, Option, Some, None, Result, Ok, Err, codes, if◌then◌else◌, length, slice_get}
use Rattle.nu_run.specs.declared.StopKind.TheVariants as stop
use Rattle.nu_value.specs.declared.key.Atom.{Atom}
use Rattle.nu_value.specs.declared.keyed.KeyEnd.{KeyEnd}
use Rattle.nu_value.specs.declared.keyed.KeyEnd.TheVariants as end
use Rattle.nu_value.specs.declared.object.Object.{Object}
use Rattle.nu_value.specs.declared.object.Object.TheVariants as object
use Rattle.nu_value.specs.declared.value.Value.{Value}
use Rattle.nu_value.specs.declared.value.Value.TheVariants as value
use Rattle.nu_value.specs.Keyed.{Keyed, key}
use Rattle.op_forms.specs.declared.end.OpEnd.{OpEnd}
use Rattle.op_forms.specs.declared.end.OpEnd.TheVariants as opend
use Rattle.op_forms.specs.Answers.{unbuilt}
use Rattle.op_forms.specs.Fits.{is_in}
use Rattle.op_rules.specs.Kinds.{kind_name, type_error}

-- ---- which list or dict keeps a value from being a key

abbrev pub first_of : Option ℕ → Option ℕ → Option ℕ
first_of None other = other
first_of (Some n) other = Some n

-- a list or a dict itself; of a tuple, what the items have
abbrev pub unhashable_on : (List Value → Option ℕ) → ℕ → Option Object → Option ℕ
unhashable_on inside n (Some (object.List items)) = Some n
unhashable_on inside n (Some (object.Dict pairs)) = Some n
unhashable_on inside n (Some (object.Tuple items)) = inside items
unhashable_on inside n other = None

abbrev pub unhashable_by : (List Value → Option ℕ) → List Object → Value → Option ℕ
unhashable_by inside h (value.Obj n) = unhashable_on inside n (slice_get h n)
unhashable_by inside h other = None

-- the first that an item has
abbrev pub first_unhashable : (Value → Option ℕ) → List Value → Option ℕ
first_unhashable f [] = None
first_unhashable f (x ∷ xs) = first_of (f x) (first_unhashable f xs)

-- among the items of a tuple, below which so many tuples may be looked into
unfoldable pub unhashable_in : ℕ → List Object → List Value → Option ℕ
unhashable_in zero h items = None
unhashable_in (suc room) h items = first_unhashable (unhashable_by (unhashable_in room h) h) items

abbrev pub unhashable_at : ℕ → List Object → Value → Option ℕ
unhashable_at room h = unhashable_by (unhashable_in room h) h

abbrev pub kind_of_found : List Object → Option ℕ → List ℕ
kind_of_found h None = codes "object"
kind_of_found h (Some n) = kind_name h (value.Obj n)

-- the error names the kind of the first from left to right, looked into as deep as a key is
abbrev pub unhashable_error : List Object → Value → OpEnd
unhashable_error h v = type_error (codes "unhashable type: '" ++ kind_of_found h (unhashable_at 1000 h v) ++ codes "'")

-- ---- the key of a value, or how an operation ends that needs one

-- no value's key ends for want of memory
abbrev pub no_key : List Object → Value → KeyEnd → OpEnd
no_key h v end.Unhashable = unhashable_error h v
no_key h v end.Unbuilt = unbuilt
no_key h v end.Depth = opend.Stop stop.Depth
no_key h v end.Memory = unbuilt

abbrev pub KeyOr : Type 0
KeyOr = Result (List Atom) OpEnd

abbrev pub key_or : List Object → Value → Keyed → KeyOr
key_or h v (Ok k) = Ok k
key_or h v (Err e) = Err (no_key h v e)

-- a value that is there has a key or an error; no operation is given another one
abbrev pub key_or_end : List Object → Value → KeyOr
key_or_end h v = if is_in (length h) v then key_or h v (key h v) else Err unbuilt

-- the error of a key that isn't there names it
abbrev pub key_error : Value → OpEnd
key_error k = opend.Raise 29 (k ∷ [])
