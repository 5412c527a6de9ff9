-- The kinds of values by name, and the exceptions that operations raise.
use Rattle.std.specs.Prelude.{ℕ, List, [], ◌∷◌, ◌++◌, Option, Some, None, codes, slice_get}
use Rattle.nu_value.specs.declared.value.Value.{Value}
use Rattle.nu_value.specs.declared.value.Value.TheVariants as value
use Rattle.nu_value.specs.declared.object.Object.{Object}
use Rattle.nu_value.specs.declared.object.Object.TheVariants as object
use Rattle.op_forms.specs.declared.end.OpEnd.{OpEnd}
use Rattle.op_forms.specs.declared.end.OpEnd.TheVariants as opend

abbrev pub class_name : Option Object → List ℕ
class_name (Some (object.Class name base own native)) = name
class_name other = codes "object"

abbrev pub object_kind : List Object → Option Object → List ℕ
object_kind h None = codes "object"
object_kind h (Some (object.Tuple items)) = codes "tuple"
object_kind h (Some (object.List items)) = codes "list"
object_kind h (Some (object.Dict pairs)) = codes "dict"
object_kind h (Some (object.Range start stop step)) = codes "range"
object_kind h (Some (object.Function code defaults keywords cells)) = codes "function"
object_kind h (Some (object.Method receiver function)) = codes "method"
object_kind h (Some (object.Class name base own native)) = codes "type"
object_kind h (Some (object.Instance class fields)) = class_name (slice_get h class)
object_kind h (Some (object.Generator code state given cells)) = codes "generator"
object_kind h (Some (object.Iterator over place size over_now)) = codes "iterator"
object_kind h (Some (object.View dict kind)) = codes "view"
object_kind h (Some (object.Cell v)) = codes "cell"
object_kind h (Some (object.Space names)) = codes "space"
object_kind h (Some (object.Exception class args entries fields cause)) = class_name (slice_get h class)
object_kind h (Some (object.Builtin name receiver)) = codes "builtin"
object_kind h (Some (object.Trace exception)) = codes "traceback"

-- the name of a value's kind: that of its class
abbrev pub kind_name : List Object → Value → List ℕ
kind_name h value.Unset = codes "object"
kind_name h value.None = codes "NoneType"
kind_name h (value.Bool b) = codes "bool"
kind_name h (value.Int z) = codes "int"
kind_name h (value.Str text) = codes "str"
kind_name h (value.Obj n) = object_kind h (slice_get h n)

-- an exception of a class with a text
abbrev pub raised : ℕ → List ℕ → OpEnd
raised class text = opend.Raise class (value.Str text ∷ [])

abbrev pub zero_division_error : List ℕ → OpEnd
zero_division_error = raised 23

abbrev pub name_error : List ℕ → OpEnd
name_error = raised 30

abbrev pub unbound_local_error : List ℕ → OpEnd
unbound_local_error = raised 31

abbrev pub type_error : List ℕ → OpEnd
type_error = raised 35

abbrev pub value_error : List ℕ → OpEnd
value_error = raised 36

-- two operands that have no result with a sign
abbrev pub no_operands : List ℕ → List Object → Value → Value → OpEnd
no_operands sign h a b =
    type_error (codes "unsupported operand type(s) for " ++ sign ++ codes ": '" ++ kind_name h a ++ codes "' and '" ++ kind_name h b ++ codes "'")

-- an operand that has no result with a sign
abbrev pub no_operand : List ℕ → List Object → Value → OpEnd
no_operand sign h a = type_error (codes "bad operand type for unary " ++ sign ++ codes ": '" ++ kind_name h a ++ codes "'")

-- two operands that have no order
abbrev pub no_order : List ℕ → List Object → Value → Value → OpEnd
no_order sign h a b =
    type_error (codes "'" ++ sign ++ codes "' not supported between instances of '" ++ kind_name h a ++ codes "' and '" ++ kind_name h b ++ codes "'")
