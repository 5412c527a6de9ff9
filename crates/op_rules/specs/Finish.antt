-- What becomes of the value of a function that an operation asked.
use Rattle.std.specs.Prelude.{ℤ, pos, List, Option, Some, None, Bool, true, false, not, codes, if◌then◌else◌, int_lt}
use Rattle.std.specs.Ordering.{int_eq}
use Rattle.nu_value.specs.declared.value.Value.{Value}
use Rattle.nu_value.specs.declared.value.Value.TheVariants as value
use Rattle.nu_value.specs.declared.object.Object.{Object}
use Rattle.nu_value.specs.declared.object.Object.TheVariants as object
use Rattle.nu_value.specs.Same.{number_of, object_of}
use Rattle.op_forms.specs.declared.end.OpEnd.{OpEnd}
use Rattle.op_forms.specs.declared.end.OpEnd.TheVariants as opend
use Rattle.op_forms.specs.declared.end.After.{After}
use Rattle.op_forms.specs.declared.end.After.TheVariants as after
use Rattle.op_forms.specs.declared.world.World.{World}
use Rattle.op_rules.specs.Kinds.{type_error, value_error}
use Rattle.op_forms.specs.Answers.{Answer, unbuilt}
use Rattle.op_forms.specs.Doing.{Doing, nothing, ends, makes, answer}
use Rattle.op_rules.specs.Comparisons.{give_bool}
use Rattle.op_rules.specs.TextMethods.{join_after}

abbrev pub truth_after : Value → OpEnd
truth_after (value.Bool b) = give_bool b
truth_after other = type_error (codes "__bool__ should return bool")

-- a length, and what is given for it
abbrev pub length_after : (ℤ → OpEnd) → Option ℤ → OpEnd
length_after f None = type_error (codes "__len__ should return an int")
length_after f (Some z) = if int_lt z (pos 0) then value_error (codes "__len__() should return >= 0") else f z

abbrev pub is_none : Value → Bool
is_none value.None = true
is_none other = false

-- what `__init__` has to answer
abbrev pub made_after : Value → Value → OpEnd
made_after value.None answer = opend.Give value.None
made_after made answer = if is_none answer then opend.Give made else type_error (codes "__init__() should return None")

-- what becomes of a value, where no list is asked for
abbrev pub value_after : After → Value → OpEnd
value_after after.Plain v = opend.Give v
value_after after.Truth v = truth_after v
value_after after.Some v = length_after (λ z. give_bool (not (int_eq z (pos 0)))) (number_of v)
value_after after.Length v = length_after (λ z. opend.Give (value.Int z)) (number_of v)
value_after (after.Made made) v = made_after made v
value_after other v = unbuilt

abbrev pub tuple_after : List Object → Option Object → Doing
tuple_after h (Some (object.List items)) = makes h (object.Tuple items)
tuple_after h other = nothing

-- a report is the machine's own
abbrev pub finishing : After → List Object → Value → Doing
finishing after.Tuple h v = tuple_after h (object_of h v)
finishing (after.Join text) h v = ends (join_after text (object_of h v))
finishing a h v = ends (value_after a v)

abbrev pub finished : After → World → Value → Answer
finished a w v = answer w (finishing a w.heap v)
