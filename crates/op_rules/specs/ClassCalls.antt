-- Calls of the natives on classes, instances and exceptions, and of the methods of generators (library reference, "Built-in
-- Functions"; reference, section 6.2.9.1).
use Rattle.std.specs.Prelude.{ℕ, List, [], ◌∷◌, ◌++◌, Option, Some, None, Bool, true, false, codes, if◌then◌else◌, slice_get}
use Rattle.std.specs.Str.{bytes_eq}
use Rattle.nu_value.specs.declared.object.Object.{Object}
use Rattle.nu_value.specs.declared.object.Object.TheVariants as object
use Rattle.nu_value.specs.declared.value.Value.{Value}
use Rattle.nu_value.specs.declared.value.Value.TheVariants as value
use Rattle.nu_value.specs.Classes.{found_in}
use Rattle.nu_value.specs.Same.{object_of}
use Rattle.op_forms.specs.declared.end.After.TheVariants as behind
use Rattle.op_forms.specs.declared.end.How.TheVariants as how
use Rattle.op_forms.specs.declared.end.OpEnd.{OpEnd}
use Rattle.op_forms.specs.declared.end.OpEnd.TheVariants as opend
use Rattle.op_forms.specs.Answers.{unbuilt}
use Rattle.op_forms.specs.Doing.{Doing, nothing, ends, gives, makes}
use Rattle.op_rules.specs.Asking.{asks}
use Rattle.op_rules.specs.Attributes.{setattr_row, method_of}
use Rattle.op_rules.specs.Comparisons.{give_bool}
use Rattle.op_rules.specs.IntRows.{of_one, of_two}
use Rattle.op_rules.specs.Kinds.{type_error}
use Rattle.op_rules.specs.Specials.{any_special, special_length}
use Rattle.op_rules.specs.Subclasses.{class_of, class_test}

abbrev pub bad_argument : List ℕ → OpEnd
bad_argument name = type_error (codes "bad argument for " ++ name)

-- ---- what a value is

abbrev pub type_row : List Object → Value → OpEnd
type_row h x = opend.Give (value.Obj (class_of h x))

abbrev pub isinstance_row : List Object → Value → Value → OpEnd
isinstance_row h x c = class_test h (class_of h x) c

abbrev pub issubclass_on : List Object → Value → Option Object → Value → OpEnd
issubclass_on h (value.Obj n) (Some (object.Class name base own native)) d = class_test h n d
issubclass_on h c other d = bad_argument (codes "issubclass")

abbrev pub issubclass_row : List Object → Value → Value → OpEnd
issubclass_row h c d = issubclass_on h c (object_of h c) d

abbrev pub is_there : Option Value → Bool
is_there None = false
is_there (Some v) = true

-- an instance can be called where its class has `__call__`
abbrev pub is_callable : List Object → Option Object → Bool
is_callable h (Some (object.Instance class fields)) = is_there (found_in h class (codes "__call__"))
is_callable h (Some (object.Function code defaults keywords cells)) = true
is_callable h (Some (object.Method receiver function)) = true
is_callable h (Some (object.Class name base own native)) = true
is_callable h (Some (object.Builtin name receiver)) = true
is_callable h other = false

abbrev pub callable_row : List Object → Value → OpEnd
callable_row h x = give_bool (is_callable h (object_of h x))

abbrev pub kind_of_object : Option Object → List ℕ
kind_of_object None = codes "none"
kind_of_object (Some (object.Tuple items)) = codes "tuple"
kind_of_object (Some (object.List items)) = codes "list"
kind_of_object (Some (object.Dict pairs)) = codes "dict"
kind_of_object (Some (object.Range start stop step)) = codes "range"
kind_of_object (Some (object.Function code defaults keywords cells)) = codes "function"
kind_of_object (Some (object.Method receiver function)) = codes "method"
kind_of_object (Some (object.Class name base own native)) = codes "class"
kind_of_object (Some (object.Instance class fields)) = codes "instance"
kind_of_object (Some (object.Generator code state given cells)) = codes "generator"
kind_of_object (Some (object.Iterator over place size over_now)) = codes "iterator"
kind_of_object (Some (object.View dict kind)) = codes "view"
kind_of_object (Some (object.Cell v)) = codes "cell"
kind_of_object (Some (object.Space names)) = codes "space"
kind_of_object (Some (object.Exception class args entries fields cause)) = codes "exception"
kind_of_object (Some (object.Builtin name receiver)) = codes "builtin"
kind_of_object (Some (object.Trace exception)) = codes "trace"

abbrev pub kind_of : List Object → Value → List ℕ
kind_of h value.Unset = codes "none"
kind_of h value.None = codes "none"
kind_of h (value.Bool b) = codes "bool"
kind_of h (value.Int z) = codes "int"
kind_of h (value.Str text) = codes "str"
kind_of h (value.Obj n) = kind_of_object (slice_get h n)

-- the kind of a value in one word
abbrev pub kind_row : List Object → Value → OpEnd
kind_row h x = opend.Give (value.Str (kind_of h x))

-- ---- attributes by name

abbrev pub setattr_call : List Object → Value → Value → Value → Doing
setattr_call h x (value.Str name) v = setattr_row h x name v
setattr_call h x other v = ends (bad_argument (codes "setattr"))

-- an exception's own `__init__`, where no script made one
abbrev pub init_or_none : List Object → Value → Option Object → List ℕ → Doing
init_or_none h x (Some (object.Exception class args entries fields cause)) name =
    if bytes_eq name (codes "__init__") then makes h (object.Builtin name x) else gives value.None
init_or_none h x other name = gives value.None

-- the special method of an instance or exception as a method of it, or None
abbrev pub special_method : List Object → Value → List ℕ → Doing
special_method h x name = method_of h x (any_special h (object_of h x) name) (init_or_none h x (object_of h x) name)

abbrev pub special_call : List Object → Value → Value → Doing
special_call h x (value.Str name) = special_method h x name
special_call h x other = nothing

abbrev pub args_on : List Object → Option Object → Doing
args_on h (Some (object.Exception class args entries fields cause)) = makes h (object.Tuple args)
args_on h other = nothing

-- ---- calls

abbrev pub with_one : (Value → Doing) → List Value → Doing
with_one f (a ∷ []) = f a
with_one f other = nothing

abbrev pub with_two : (Value → Value → Doing) → List Value → Doing
with_two f (a ∷ b ∷ []) = f a b
with_two f other = nothing

abbrev pub with_three : (Value → Value → Value → Doing) → List Value → Doing
with_three f (a ∷ b ∷ c ∷ []) = f a b c
with_three f other = nothing

-- natives that say what a value is
abbrev pub asking_call : List Object → List ℕ → List Value → OpEnd
asking_call h name args =
    if bytes_eq name (codes "isinstance") then of_two (isinstance_row h) args
    else if bytes_eq name (codes "issubclass") then of_two (issubclass_row h) args
    else if bytes_eq name (codes "callable") then of_one (callable_row h) args
    else if bytes_eq name (codes "type") then of_one (type_row h) args
    else if bytes_eq name (codes "len") then of_one (special_length h) args
    else if bytes_eq name (codes "_nu_kind") then of_one (kind_row h) args
    else unbuilt

abbrev pub native_call : List Object → List ℕ → List Value → Doing
native_call h name args =
    if bytes_eq name (codes "setattr") then with_three (setattr_call h) args
    else if bytes_eq name (codes "_nu_special") then with_two (special_call h) args
    else if bytes_eq name (codes "_nu_args") then with_one (λ e. args_on h (object_of h e)) args
    else ends (asking_call h name args)

-- ---- generators

abbrev pub send_call : ℕ → Value → OpEnd
send_call n v = opend.Resume n (how.Send v)

abbrev pub close_call : ℕ → List Value → OpEnd
close_call n [] = opend.Resume n how.Close
close_call n args = unbuilt

abbrev pub throw_call : List Object → ℕ → Value → OpEnd
throw_call h n x = asks h (codes "_nu_throw") (value.Obj n ∷ x ∷ []) [] behind.Plain

abbrev pub generator_call : List Object → ℕ → List ℕ → List Value → OpEnd
generator_call h n name args =
    if bytes_eq name (codes "send") then of_one (send_call n) args
    else if bytes_eq name (codes "close") then close_call n args
    else if bytes_eq name (codes "throw") then of_one (throw_call h n) args
    else unbuilt

abbrev pub method_on : List Object → ℕ → Option Object → List ℕ → List Value → OpEnd
method_on h n (Some (object.Generator code state given cells)) name args = generator_call h n name args
method_on h n other name args = unbuilt

abbrev pub method_call : List Object → List ℕ → Value → List Value → Doing
method_call h name value.Unset args = native_call h name args
method_call h name (value.Obj n) args = ends (method_on h n (slice_get h n) name args)
method_call h name receiver args = nothing
