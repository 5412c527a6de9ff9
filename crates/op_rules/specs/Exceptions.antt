-- Exceptions: making, raising and matching them (reference, sections 7.8 and 8.4).
use Rattle.std.specs.Prelude.{ℕ, List, [], ◌∷◌, Option, Some, None, Bool, false, codes, if◌then◌else◌, length, slice_get}
use Rattle.std.specs.List.{list_all, list_any}
use Rattle.std.specs.Str.{bytes_eq}
use Rattle.nu_value.specs.declared.object.Object.{Object}
use Rattle.nu_value.specs.declared.object.Object.TheVariants as object
use Rattle.nu_value.specs.declared.value.Value.{Value}
use Rattle.nu_value.specs.declared.value.Value.TheVariants as value
use Rattle.nu_value.specs.Classes.{is_under, found_in}
use Rattle.nu_value.specs.Natives.{baseexception_number}
use Rattle.nu_value.specs.Same.{object_of}
use Rattle.op_forms.specs.declared.end.After.TheVariants as behind
use Rattle.op_forms.specs.declared.end.OpEnd.{OpEnd}
use Rattle.op_forms.specs.declared.end.OpEnd.TheVariants as opend
use Rattle.op_forms.specs.Answers.{unbuilt}
use Rattle.op_forms.specs.Doing.{Doing, nothing, ends, gives, makes}
use Rattle.op_rules.specs.declared.special.Init.{Init}
use Rattle.op_rules.specs.declared.special.Init.TheVariants as init
use Rattle.op_rules.specs.Comparisons.{give_bool}
use Rattle.op_rules.specs.Kinds.{type_error}
use Rattle.op_rules.specs.Specials.{found_object}
use Rattle.op_rules.specs.Subclasses.{class_of, is_exception_class, is_under_value}

-- an exception as it is made without arguments
abbrev pub bare : ℕ → Object
bare class = object.Exception class [] [] [] None

-- the `__init__` of exceptions that no script made, found through a class
abbrev pub is_plain_init : List ℕ → Value → Bool
is_plain_init name value.Unset = bytes_eq name (codes "__init__")
is_plain_init name receiver = false

abbrev pub init_as : Option Value → Option Object → Init
init_as None o = init.Plain
init_as (Some (value.Obj f)) (Some (object.Function code defaults keywords cells)) = init.Function f
init_as (Some (value.Obj f)) (Some (object.Builtin name receiver)) = if is_plain_init name receiver then init.Plain else init.Other
init_as (Some v) o = init.Other

abbrev pub init_in : List Object → ℕ → Init
init_in h class = init_as (found_in h class (codes "__init__")) (found_object h (found_in h class (codes "__init__")))

abbrev pub exception_asking : List Object → ℕ → ℕ → Doing
exception_asking h class f =
    record {
      end = opend.Ask f (value.Obj (length h) ∷ []) [] (behind.Made (value.Obj (length h)));
      set = None;
      made = bare class ∷ [];
    }

abbrev pub exception_by : List Object → ℕ → Init → Doing
exception_by h class init.Plain = makes h (bare class)
exception_by h class (init.Function f) = exception_asking h class f
exception_by h class init.Other = nothing

-- an exception class is called without arguments: a new exception, which the class's `__init__` is asked for
abbrev pub exception_of : List Object → ℕ → Doing
exception_of h class = exception_by h class (init_in h class)

abbrev pub no_exception : OpEnd
no_exception = type_error (codes "exceptions must derive from BaseException")

abbrev pub exc_on : List Object → ℕ → Option Object → Doing
exc_on h n (Some (object.Exception class args entries fields cause)) = gives (value.Obj n)
exc_on h n (Some (object.Class name base own native)) =
    if is_under h (Some n) baseexception_number then exception_of h n else ends no_exception
exc_on h n other = ends no_exception

-- what `raise` is given: an exception itself, or one of an exception class
abbrev pub exc_row : List Object → Value → Doing
exc_row h (value.Obj n) = exc_on h n (slice_get h n)
exc_row h x = ends no_exception

abbrev pub raise_on : ℕ → Option Object → OpEnd
raise_on n (Some (object.Exception class args entries fields cause)) = opend.Raise n []
raise_on n other = unbuilt

abbrev pub raise_row : List Object → Value → OpEnd
raise_row h (value.Obj n) = raise_on n (slice_get h n)
raise_row h x = unbuilt

abbrev pub no_catching : OpEnd
no_catching = type_error (codes "catching classes that do not inherit from BaseException is not allowed")

-- all classes are looked at first
abbrev pub matches : List Object → ℕ → List Value → OpEnd
matches h own classes =
    if list_all (is_exception_class h) classes then give_bool (list_any (is_under_value h own) classes) else no_catching

-- a class, or those of a tuple
abbrev pub classes_in : Value → Option Object → List Value
classes_in c (Some (object.Tuple items)) = items
classes_in c other = c ∷ []

-- whether an `except` clause catches an exception
abbrev pub match_row : List Object → Value → Value → OpEnd
match_row h e c = matches h (class_of h e) (classes_in c (object_of h c))

-- the traceback that `__exit__` is given
abbrev pub trace_on : List Object → ℕ → Option Object → Doing
trace_on h n (Some (object.Exception class args entries fields cause)) = makes h (object.Trace n)
trace_on h n other = nothing

abbrev pub trace_row : List Object → Value → Doing
trace_row h (value.Obj n) = trace_on h n (slice_get h n)
trace_row h x = nothing
