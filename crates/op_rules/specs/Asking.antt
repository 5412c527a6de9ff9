-- Functions of the built-in text that an operation asks by their names.
use Rattle.std.specs.Prelude.{ℕ, List, Option, Some, None, length, slice_get}
use Rattle.nu_value.specs.declared.object.Object.{Object}
use Rattle.nu_value.specs.declared.object.Object.TheVariants as object
use Rattle.nu_value.specs.declared.value.Value.{Value}
use Rattle.nu_value.specs.declared.value.Value.TheVariants as value
use Rattle.nu_value.specs.Names.{NameList, value_at}
use Rattle.nu_value.specs.Natives.{native_classes}
use Rattle.op_forms.specs.declared.end.After.{After}
use Rattle.op_forms.specs.declared.end.OpEnd.{OpEnd}
use Rattle.op_forms.specs.declared.end.OpEnd.TheVariants as opend
use Rattle.op_forms.specs.Answers.{unbuilt, names_of}

-- a run's first object behind the native classes holds the built-in names
abbrev pub built_ins : ℕ
built_ins = length native_classes

abbrev pub function_at : ℕ → Option Object → Option ℕ
function_at n (Some (object.Function code defaults keywords cells)) = Some n
function_at n other = None

abbrev pub function_of : List Object → Option Value → Option ℕ
function_of h (Some (value.Obj n)) = function_at n (slice_get h n)
function_of h other = None

-- the number of the function that has this built-in name
abbrev pub built_in : List Object → List ℕ → Option ℕ
built_in h name = function_of h (value_at (names_of (slice_get h built_ins)) name)

abbrev pub asked : Option ℕ → List Value → NameList → After → OpEnd
asked None args names a = unbuilt
asked (Some f) args names a = opend.Ask f args names a

-- it is asked with arguments, and its value goes through an After; without such a function it is the stop Unbuilt
abbrev pub asks : List Object → List ℕ → List Value → NameList → After → OpEnd
asks h name args names a = asked (built_in h name) args names a
