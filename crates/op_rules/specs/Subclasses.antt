-- The class of a value, and which class stands under which (reference, section 3.3.2; library reference, `isinstance` and
-- `issubclass`).
use Rattle.std.specs.Prelude.{ℕ, List, [], ◌∷◌, Option, Some, None, Bool, true, false, codes, if◌then◌else◌, slice_get}
use Rattle.nu_value.specs.declared.object.Object.{Object}
use Rattle.nu_value.specs.declared.object.Object.TheVariants as object
use Rattle.nu_value.specs.declared.value.Value.{Value}
use Rattle.nu_value.specs.declared.value.Value.TheVariants as value
use Rattle.nu_value.specs.Classes.{is_under}
use Rattle.nu_value.specs.Natives.{baseexception_number}
use Rattle.nu_value.specs.Same.{object_of}
use Rattle.op_forms.specs.declared.end.OpEnd.{OpEnd}
use Rattle.op_forms.specs.Answers.{unbuilt}
use Rattle.op_rules.specs.Comparisons.{give_bool}
use Rattle.op_rules.specs.Kinds.{type_error}

-- an instance and an exception know their class; that of any other value is one that no script made
abbrev pub object_class : Option Object → ℕ
object_class None = 0
object_class (Some (object.Tuple items)) = 5
object_class (Some (object.List items)) = 6
object_class (Some (object.Dict pairs)) = 7
object_class (Some (object.Range start stop step)) = 8
object_class (Some (object.Function code defaults keywords cells)) = 9
object_class (Some (object.Method receiver function)) = 10
object_class (Some (object.Class name base own native)) = 11
object_class (Some (object.Instance class fields)) = class
object_class (Some (object.Generator code state given cells)) = 12
object_class (Some (object.Iterator over place size over_now)) = 13
object_class (Some (object.View dict kind)) = 14
object_class (Some (object.Builtin name receiver)) = 15
object_class (Some (object.Trace exception)) = 16
object_class (Some (object.Cell v)) = 17
object_class (Some (object.Space names)) = 18
object_class (Some (object.Exception class args entries fields cause)) = class

abbrev pub class_of : List Object → Value → ℕ
class_of h value.Unset = 0
class_of h value.None = 1
class_of h (value.Bool b) = 2
class_of h (value.Int z) = 3
class_of h (value.Str text) = 4
class_of h (value.Obj n) = object_class (slice_get h n)

abbrev pub is_class : Option Object → Bool
is_class (Some (object.Class name base own native)) = true
is_class other = false

-- a class under BaseException
abbrev pub is_raisable : List Object → ℕ → Option Object → Bool
is_raisable h n (Some (object.Class name base own native)) = is_under h (Some n) baseexception_number
is_raisable h n other = false

abbrev pub is_exception_class : List Object → Value → Bool
is_exception_class h (value.Obj n) = is_raisable h n (slice_get h n)
is_exception_class h other = false

-- whether a class is the one that a value is, or stands under it
abbrev pub is_under_value : List Object → ℕ → Value → Bool
is_under_value h own (value.Obj n) = is_under h (Some own) n
is_under_value h own other = false

abbrev pub no_classes : OpEnd
no_classes = type_error (codes "arg 2 must be a class or tuple of classes")

-- one class is tried, before others; a tuple among them is left out
abbrev pub item_test : List Object → ℕ → Value → Option Object → OpEnd → OpEnd
item_test h own v (Some (object.Class name base names native)) rest = if is_under_value h own v then give_bool true else rest
item_test h own v (Some (object.Tuple items)) rest = unbuilt
item_test h own v other rest = no_classes

abbrev pub any_of : List Object → ℕ → List Value → OpEnd
any_of h own [] = give_bool false
any_of h own (v ∷ vs) = item_test h own v (object_of h v) (any_of h own vs)

-- a class, or a tuple whose items are tried in order until one holds
abbrev pub value_test : List Object → ℕ → Value → Option Object → OpEnd
value_test h own c (Some (object.Tuple items)) = any_of h own items
value_test h own c other = item_test h own c other (give_bool false)

abbrev pub class_test : List Object → ℕ → Value → OpEnd
class_test h own c = value_test h own c (object_of h c)
