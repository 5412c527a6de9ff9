-- Comparisons (reference, section 6.10) and truth values (library reference, "Truth Value Testing").
use Rattle.std.specs.Prelude.{ℕ, pos, List, [], ◌∷◌, Option, Some, Bool, true, false, not, ◌==◌, slice_get}
use Rattle.std.specs.Ordering.{int_eq}
use Rattle.std.specs.declared.cmp.Ordering.{Ordering}
use Rattle.std.specs.Ordering.{is_lt, is_le, is_gt, is_ge, nat_cmp}
use Rattle.std.specs.Cmp.Lexicographic.{slice_cmp}
use Rattle.nu_run.specs.declared.StopKind.TheVariants as stop
use Rattle.nu_value.specs.declared.value.Value.{Value}
use Rattle.nu_value.specs.declared.value.Value.TheVariants as value
use Rattle.nu_value.specs.declared.object.Object.{Object}
use Rattle.nu_value.specs.declared.object.Object.TheVariants as object
use Rattle.nu_value.specs.declared.same.Sameness.{Sameness}
use Rattle.nu_value.specs.declared.same.Sameness.TheVariants as same
use Rattle.nu_value.specs.Same.{eq, identical}
use Rattle.nu_value.specs.Ranges.{range_count}
use Rattle.op_forms.specs.declared.end.OpEnd.{OpEnd}
use Rattle.op_forms.specs.declared.end.OpEnd.TheVariants as opend
use Rattle.op_forms.specs.declared.op.Op.{Op}
use Rattle.op_forms.specs.declared.op.Op.TheVariants as op

abbrev pub give_bool : Bool → OpEnd
give_bool b = opend.Give (value.Bool b)

abbrev pub same_end : (Bool → Bool) → Sameness → OpEnd
same_end f same.Equal = give_bool (f true)
same_end f same.Different = give_bool (f false)
same_end f same.Depth = opend.Stop stop.Depth
same_end f same.Unbuilt = opend.Stop stop.Unbuilt

abbrev pub eq_row : List Object → Value → Value → OpEnd
eq_row h a b = same_end (λ b. b) (eq h a b)

abbrev pub ne_row : List Object → Value → Value → OpEnd
ne_row h a b = same_end not (eq h a b)

abbrev pub is_row : Value → Value → OpEnd
is_row a b = give_bool (identical a b)

abbrev pub isnot_row : Value → Value → OpEnd
isnot_row a b = give_bool (not (identical a b))

abbrev pub not_row : Value → OpEnd
not_row (value.Bool b) = give_bool (not b)
not_row other = opend.Stop stop.Unbuilt

-- whether an order is one that the comparison asks for
abbrev pub holds : Op → Ordering → Bool
holds op.Lt o = is_lt o
holds op.Le o = is_le o
holds op.Gt o = is_gt o
holds op.Ge o = is_ge o
holds other o = false

-- texts are ordered by their characters, and UTF-8 keeps that order
abbrev pub text_cmp : List ℕ → List ℕ → Ordering
text_cmp = slice_cmp nat_cmp

-- whether a list isn't empty
abbrev pub is_filled : {A : Type 0} → List A → Bool
is_filled [] = false
is_filled (x ∷ xs) = true

abbrev pub dict_truth : Option Object → Bool
dict_truth (Some (object.Dict pairs)) = is_filled pairs
dict_truth other = true

-- what has a length is true where that isn't 0; an instance's own answer comes with its methods
abbrev pub object_truth : List Object → Option Object → OpEnd
object_truth h (Some (object.Tuple items)) = give_bool (is_filled items)
object_truth h (Some (object.List items)) = give_bool (is_filled items)
object_truth h (Some (object.Dict pairs)) = give_bool (is_filled pairs)
object_truth h (Some (object.Range start stop step)) = give_bool (not (range_count start stop step == 0))
object_truth h (Some (object.View dict kind)) = give_bool (dict_truth (slice_get h dict))
object_truth h (Some (object.Instance class fields)) = opend.Stop stop.Unbuilt
object_truth h other = give_bool true

abbrev pub truth_row : List Object → Value → OpEnd
truth_row h value.Unset = opend.Stop stop.Unbuilt
truth_row h value.None = give_bool false
truth_row h (value.Bool b) = give_bool b
truth_row h (value.Int z) = give_bool (not (int_eq z (pos 0)))
truth_row h (value.Str text) = give_bool (is_filled text)
truth_row h (value.Obj n) = object_truth h (slice_get h n)
