-- What does the work of a call: an operation, the built-ins of a family of values, or the call itself.
use Rattle.std.specs.Prelude.{ℕ, List, [], ◌∷◌, Option, Some, Bool, true, false, ◌||◌, codes, if◌then◌else◌, nat_eq, slice_get}
use Rattle.std.specs.Str.{bytes_eq}
use Rattle.nu_value.specs.declared.value.Value.{Value}
use Rattle.nu_value.specs.declared.value.Value.TheVariants as value
use Rattle.nu_value.specs.declared.object.Object.{Object}
use Rattle.nu_value.specs.declared.object.Object.TheVariants as object
use Rattle.nu_value.specs.Same.{object_of}
use Rattle.op_forms.specs.declared.op.Op.{Op}
use Rattle.op_forms.specs.declared.op.Op.TheVariants as op
use Rattle.op_rules.specs.declared.callees.Route.{Route}
use Rattle.op_rules.specs.declared.callees.Route.TheVariants.{Operation, BuiltIn, Itself}
use Rattle.op_rules.specs.declared.family.Family.{Family}
use Rattle.op_rules.specs.declared.family.Family.TheVariants as family
use Rattle.op_rules.specs.Calls.{callee, given_args}
use Rattle.op_rules.specs.Families.{value_family}

-- whether a call has no keywords
abbrev pub is_empty_dict : Option Object → Bool
is_empty_dict (Some (object.Dict [])) = true
is_empty_dict other = false

abbrev pub is_plain : Op → List Object → List Value → Bool
is_plain op.Call h args = true
is_plain op.CallX h (f ∷ list ∷ dict ∷ []) = is_empty_dict (object_of h dict)
is_plain o h args = false

-- a native of one argument that does what an operation does
abbrev pub by_operation : Op → Bool → List Value → Route
by_operation o true (x ∷ []) = Operation o
by_operation o plain args = Itself

abbrev pub attribute_route : Bool → List Value → Route
attribute_route true (x ∷ value.Str name ∷ []) = Operation op.Attr
attribute_route plain args = Itself

-- what has no items has no length
abbrev pub length_in : Family → Route
length_in family.Integers = Itself
length_in f = BuiltIn f

abbrev pub length_route : List Object → Bool → List Value → Route
length_route h true (x ∷ []) = length_in (value_family h x)
length_route h plain args = Itself

abbrev pub is_text_native : List ℕ → Bool
is_text_native name =
    bytes_eq name (codes "ord") || (bytes_eq name (codes "chr") || (bytes_eq name (codes "_nu_quote") || bytes_eq name (codes "_nu_text")))

abbrev pub is_class_native : List ℕ → Bool
is_class_native name =
    bytes_eq name (codes "isinstance") || (bytes_eq name (codes "issubclass") || (bytes_eq name (codes "callable") || (bytes_eq name (codes "setattr")
    || (bytes_eq name (codes "_nu_kind") || (bytes_eq name (codes "_nu_special") || bytes_eq name (codes "_nu_args"))))))

abbrev pub family_route : List ℕ → Route
family_route name =
    if is_text_native name then BuiltIn family.Texts
    else if is_class_native name then BuiltIn family.Classes
    else if bytes_eq name (codes "_nu_order") then BuiltIn family.Sequences
    else Itself

abbrev pub native_route : List Object → List ℕ → Bool → List Value → Route
native_route h name plain args =
    if bytes_eq name (codes "len") then length_route h plain args
    else if bytes_eq name (codes "_nu_next") then by_operation op.Next plain args
    else if bytes_eq name (codes "_nu_iter") then by_operation op.Iter plain args
    else if bytes_eq name (codes "_nu_getattr") then attribute_route plain args
    else if bytes_eq name (codes "_nu_exc") then by_operation op.Exc plain args
    else family_route name

-- a method goes to the family of its receiver
abbrev pub method_route : Option Object → Route
method_route (Some (object.List items)) = BuiltIn family.Sequences
method_route (Some (object.Tuple items)) = BuiltIn family.Sequences
method_route (Some (object.Dict pairs)) = BuiltIn family.Dicts
method_route (Some (object.Generator code state given cells)) = BuiltIn family.Classes
method_route other = Itself

abbrev pub builtin_route : List Object → List ℕ → Value → Bool → List Value → Route
builtin_route h name value.Unset plain args = native_route h name plain args
builtin_route h name (value.Str text) plain args = BuiltIn family.Texts
builtin_route h name receiver plain args = method_route (object_of h receiver)

-- `bool` gives the truth of its argument
abbrev pub class_route : ℕ → Bool → List Value → Route
class_route c plain args =
    if nat_eq c 2 then by_operation op.Truth plain args
    else if nat_eq c 3 then BuiltIn family.Texts
    else if nat_eq c 11 then BuiltIn family.Classes
    else Itself

abbrev pub object_route : List Object → ℕ → Bool → List Value → Option Object → Route
object_route h n plain args (Some (object.Builtin name receiver)) = builtin_route h name receiver plain args
object_route h n plain args (Some (object.Class name base own true)) = class_route n plain args
object_route h n plain args other = Itself

abbrev pub value_route : List Object → Value → Bool → List Value → Route
value_route h (value.Obj n) plain args = object_route h n plain args (slice_get h n)
value_route h f plain args = Itself

abbrev pub route : Op → List Object → List Value → Route
route o h args = value_route h (callee args) (is_plain o h args) (given_args o h args)

-- the name and the receiver of a built-in; a class is one by its own name
abbrev pub builtin_name : Option Object → List ℕ
builtin_name (Some (object.Builtin name receiver)) = name
builtin_name (Some (object.Class name base own native)) = name
builtin_name other = []

abbrev pub builtin_receiver : Option Object → Value
builtin_receiver (Some (object.Builtin name receiver)) = receiver
builtin_receiver other = value.Unset
