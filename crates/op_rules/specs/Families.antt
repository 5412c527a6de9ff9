-- The families of rows that values belong to.
use Rattle.std.specs.Prelude.{List, [], ◌∷◌, Option, Some, slice_get}
use Rattle.nu_value.specs.declared.value.Value.{Value}
use Rattle.nu_value.specs.declared.value.Value.TheVariants as value
use Rattle.nu_value.specs.declared.object.Object.{Object}
use Rattle.nu_value.specs.declared.object.Object.TheVariants as object
use Rattle.op_rules.specs.declared.family.Family.{Family}
use Rattle.op_rules.specs.declared.family.Family.TheVariants as family

abbrev pub object_family : Option Object → Family
object_family (Some (object.Instance class fields)) = family.Classes
object_family (Some (object.Class name base own native)) = family.Classes
object_family (Some (object.Exception class args entries fields cause)) = family.Classes
object_family (Some (object.Dict pairs)) = family.Dicts
object_family (Some (object.View dict kind)) = family.Dicts
object_family (Some (object.Tuple items)) = family.Sequences
object_family (Some (object.List items)) = family.Sequences
object_family (Some (object.Range start stop step)) = family.Sequences
object_family (Some (object.Iterator over place size over_now)) = family.Sequences
object_family other = family.Integers

abbrev pub value_family : List Object → Value → Family
value_family h (value.Str text) = family.Texts
value_family h (value.Obj n) = object_family (slice_get h n)
value_family h other = family.Integers

-- the one that comes first in the order classes, dicts, sequences, texts, integers
abbrev pub first_family : Family → Family → Family
first_family family.Classes g = family.Classes
first_family family.Dicts family.Classes = family.Classes
first_family family.Dicts g = family.Dicts
first_family family.Sequences family.Classes = family.Classes
first_family family.Sequences family.Dicts = family.Dicts
first_family family.Sequences g = family.Sequences
first_family family.Texts family.Integers = family.Texts
first_family family.Texts g = g
first_family family.Integers g = g

abbrev pub family_of : List Object → List Value → Family
family_of h [] = family.Integers
family_of h (v ∷ vs) = first_family (value_family h v) (family_of h vs)

-- the family of the first, and of the second of two
abbrev pub family_at_first : List Object → List Value → Family
family_at_first h [] = family.Integers
family_at_first h (v ∷ vs) = value_family h v

abbrev pub family_at_second : List Object → List Value → Family
family_at_second h [] = family.Integers
family_at_second h (v ∷ vs) = family_at_first h vs
