-- Calls of classes: new instances and exceptions, and what the classes make that no script made (reference, sections 3.2 and 6.3.4;
-- library reference, "Built-in Functions").
use Rattle.std.specs.Prelude.{ℕ, ℤ, pos, List, [], ◌∷◌, ◌++◌, Option, Some, None, Bool, ◌||◌, codes, if◌then◌else◌, nat_eq, length, slice_get}
use Rattle.std.specs.Ordering.{int_eq}
use Rattle.std.specs.Str.{bytes_eq}
use Rattle.nu_value.specs.declared.value.Value.{Value}
use Rattle.nu_value.specs.declared.value.Value.TheVariants as value
use Rattle.nu_value.specs.declared.object.Object.{Object}
use Rattle.nu_value.specs.declared.object.Object.TheVariants as object
use Rattle.nu_value.specs.Classes.{is_under, found_in}
use Rattle.nu_value.specs.Names.{NameList}
use Rattle.nu_value.specs.Natives.{baseexception_number, nameerror_number}
use Rattle.nu_value.specs.Same.{number_of, object_of}
use Rattle.op_forms.specs.declared.end.After.TheVariants as behind
use Rattle.op_forms.specs.declared.end.OpEnd.{OpEnd}
use Rattle.op_forms.specs.declared.end.OpEnd.TheVariants as opend
use Rattle.op_forms.specs.Doing.{Doing, nothing, ends, makes}
use Rattle.op_rules.specs.declared.callees.Method.{Method}
use Rattle.op_rules.specs.declared.callees.Method.TheVariants as method
use Rattle.op_rules.specs.Asking.{asks}
use Rattle.op_rules.specs.Kinds.{class_name, kind_name, type_error, value_error}

-- Methods that a class has for a call

abbrev pub method_as : Option Value → Option Object → Method
method_as None o = method.Absent
method_as (Some (value.Obj f)) (Some (object.Function code defaults keywords cells)) = method.Function f
method_as (Some (value.Obj f)) (Some (object.Builtin name value.Unset)) = if bytes_eq name (codes "__init__") then method.Native else method.Other
method_as (Some v) o = method.Other

abbrev pub object_at : List Object → Option Value → Option Object
object_at h None = None
object_at h (Some v) = object_of h v

-- on a class, or on the nearest class outward
abbrev pub method_in : List Object → ℕ → List ℕ → Method
method_in h c name = method_as (found_in h c name) (object_at h (found_in h c name))

-- Instances and exceptions

abbrev pub is_exception_class : List Object → ℕ → Bool
is_exception_class h c = is_under h (Some c) baseexception_number

-- an exception has the positional arguments of its class's call
abbrev pub made_of : List Object → ℕ → List Value → Object
made_of h c args = if is_exception_class h c then object.Exception c args [] [] None else object.Instance c []

abbrev pub takes_none : List Object → ℕ → OpEnd
takes_none h c = type_error (class_name (slice_get h c) ++ codes "() takes no arguments")

-- the classes whose exceptions take keywords, which are left out
abbrev pub takes_keywords : List Object → ℕ → Bool
takes_keywords h c = is_under h (Some c) nameerror_number || is_under h (Some c) 25

abbrev pub exception_made : List Object → ℕ → List Value → NameList → Doing
exception_made h c args [] = makes h (made_of h c args)
exception_made h c args (q ∷ qs) = if takes_keywords h c then nothing else ends (takes_none h c)

abbrev pub instance_made : List Object → ℕ → List Value → NameList → Doing
instance_made h c [] [] = makes h (made_of h c [])
instance_made h c args names = ends (takes_none h c)

-- without an `__init__`
abbrev pub plainly_made : List Object → ℕ → List Value → NameList → Doing
plainly_made h c args names = if is_exception_class h c then exception_made h c args names else instance_made h c args names

-- with that of exceptions, which takes no keywords
abbrev pub natively_made : List Object → ℕ → List Value → NameList → Doing
natively_made h c args [] = if is_exception_class h c then makes h (made_of h c args) else nothing
natively_made h c args (q ∷ qs) = nothing

-- with a function, which is asked
abbrev pub made_by_function : List Object → ℕ → ℕ → List Value → NameList → Doing
made_by_function h f c args names =
    record {
      end = opend.Ask f (value.Obj (length h) ∷ args) names (behind.Made (value.Obj (length h)));
      set = None;
      made = made_of h c args ∷ [];
    }

abbrev pub made_with : List Object → Method → ℕ → List Value → NameList → Doing
made_with h method.Absent c args names = plainly_made h c args names
made_with h (method.Function f) c args names = made_by_function h f c args names
made_with h method.Native c args names = natively_made h c args names
made_with h method.Other c args names = nothing

-- a class that a script made, or of exceptions, is called
abbrev pub construct : List Object → ℕ → List Value → NameList → Doing
construct h c args names = made_with h (method_in h c (codes "__init__")) c args names

-- Other classes that no script made

abbrev pub not_callable : List Object → Value → OpEnd
not_callable h f = type_error (codes "'" ++ kind_name h f ++ codes "' object is not callable")

abbrev pub object_row : List Object → List Value → NameList → Doing
object_row h [] [] = makes h (object.Instance 0 [])
object_row h args names = nothing

abbrev pub range_by : List Object → Option ℤ → Option ℤ → Option ℤ → Doing
range_by h (Some a) (Some b) (Some step) =
    if int_eq step (pos 0) then ends (value_error (codes "range() arg 3 must not be zero")) else makes h (object.Range a b step)
range_by h a b step = ends (type_error (codes "range() argument must be an int"))

-- a range of one to three integers
abbrev pub range_row : List Object → List Value → NameList → Doing
range_row h (b ∷ []) [] = range_by h (Some (pos 0)) (number_of b) (Some (pos 1))
range_row h (a ∷ b ∷ []) [] = range_by h (number_of a) (number_of b) (Some (pos 1))
range_row h (a ∷ b ∷ step ∷ []) [] = range_by h (number_of a) (number_of b) (number_of step)
range_row h args names = nothing

-- `bool`, `int` and `type` are called so only with arguments that they don't take
abbrev pub is_left_out : ℕ → Bool
is_left_out c = nat_eq c 2 || (nat_eq c 3 || nat_eq c 11)

abbrev pub native_class : List Object → ℕ → List Value → NameList → Doing
native_class h c args names =
    if nat_eq c 0 then object_row h args names
    else if nat_eq c 4 then ends (asks h (codes "_nu_str") args names behind.Plain)
    else if nat_eq c 5 then ends (asks h (codes "_nu_listof") args names behind.Tuple)
    else if nat_eq c 6 then ends (asks h (codes "_nu_listof") args names behind.Plain)
    else if nat_eq c 7 then ends (asks h (codes "_nu_dictof") args names behind.Plain)
    else if nat_eq c 8 then range_row h args names
    else if is_left_out c then nothing
    else ends (not_callable h (value.Obj c))
