-- The rows on dicts and their views that change nothing (reference, section 6.10.2, and library reference, "Dictionary view objects").
use Rattle.std.specs.Prelude.{ℕ, pos, List, [], ◌∷◌, Option, Some, None, Ok, Err, Bool, true, false, length, slice_get}
use Rattle.nu_value.specs.declared.object.Object.{Object}
use Rattle.nu_value.specs.declared.object.Object.TheVariants as object
use Rattle.nu_value.specs.declared.object.ViewKind.{ViewKind}
use Rattle.nu_value.specs.declared.object.ViewKind.TheVariants as view
use Rattle.nu_value.specs.declared.same.Sameness.{Sameness}
use Rattle.nu_value.specs.declared.same.Sameness.TheVariants as same
use Rattle.nu_value.specs.declared.value.Value.{Value}
use Rattle.nu_value.specs.declared.value.Value.TheVariants as value
use Rattle.nu_value.specs.Pairs.{PairList, found_at, mapped_value}
use Rattle.nu_value.specs.Same.{eq, object_of}
use Rattle.op_forms.specs.declared.end.OpEnd.{OpEnd}
use Rattle.op_forms.specs.declared.end.OpEnd.TheVariants as opend
use Rattle.op_forms.specs.Answers.{unbuilt}
use Rattle.op_forms.specs.Doing.{Doing, nothing, makes}
use Rattle.op_rules.specs.Access.{not_subscriptable}
use Rattle.op_rules.specs.Comparisons.{give_bool, same_end}
use Rattle.op_rules.specs.Keys.{KeyOr, key_or_end, key_error}
use Rattle.op_rules.specs.NameRows.{value_or}

-- the pairs that a dict has
abbrev pub pairs_in : Option Object → PairList
pairs_in (Some (object.Dict pairs)) = pairs
pairs_in other = []

-- how many pairs a dict has, or the dict of a view
abbrev pub size_on : List Object → Option Object → Option ℕ
size_on h (Some (object.Dict pairs)) = Some (length pairs)
size_on h (Some (object.View dict kind)) = Some (length (pairs_in (slice_get h dict)))
size_on h other = None

abbrev pub size_of : List Object → Value → Option ℕ
size_of h x = size_on h (object_of h x)

-- ---- `x[i]`: what a key maps to; a view has no items

abbrev pub value_keyed : PairList → Value → KeyOr → OpEnd
value_keyed pairs i (Ok k) = value_or (mapped_value pairs k) (key_error i)
value_keyed pairs i (Err e) = e

abbrev pub index_on : List Object → Value → Value → Option Object → OpEnd
index_on h x i (Some (object.Dict pairs)) = value_keyed pairs i (key_or_end h i)
index_on h x i other = not_subscriptable h x

abbrev pub index_row : List Object → Value → Value → OpEnd
index_row h x i = index_on h x i (object_of h x)

-- ---- `v in x`: a dict and its keys by the key, its values by equality, and its pairs aren't built

abbrev pub is_found : Option ℕ → Bool
is_found None = false
is_found (Some place) = true

abbrev pub key_within : PairList → KeyOr → OpEnd
key_within pairs (Ok k) = give_bool (is_found (found_at pairs k))
key_within pairs (Err e) = e

-- the first answer other than Different
abbrev pub else_by : Sameness → Sameness → Sameness
else_by same.Different more = more
else_by answer more = answer

-- whether one of the values is the same
abbrev pub among_values : (Value → Sameness) → PairList → Sameness
among_values f [] = same.Different
among_values f (p ∷ ps) = else_by (f p.2) (among_values f ps)

abbrev pub value_within : List Object → Value → PairList → OpEnd
value_within h v pairs = same_end (λ b. b) (among_values (λ x. eq h x v) pairs)

abbrev pub in_view : List Object → Value → ViewKind → PairList → OpEnd
in_view h v view.Keys pairs = key_within pairs (key_or_end h v)
in_view h v view.Values pairs = value_within h v pairs
in_view h v view.Both pairs = unbuilt

abbrev pub in_on : List Object → Value → Option Object → OpEnd
in_on h v (Some (object.Dict pairs)) = key_within pairs (key_or_end h v)
in_on h v (Some (object.View dict kind)) = in_view h v kind (pairs_in (slice_get h dict))
in_on h v other = unbuilt

abbrev pub in_row : List Object → Value → Value → OpEnd
in_row h v x = in_on h v (object_of h x)

-- ---- an iterator knows how many pairs there are when it begins

abbrev pub iter_sized : List Object → Value → Option ℕ → Doing
iter_sized h x None = nothing
iter_sized h x (Some size) = makes h (object.Iterator x (pos 0) size false)

abbrev pub iter_row : List Object → Value → Doing
iter_row h x = iter_sized h x (size_of h x)

-- ---- `len(x)`

abbrev pub len_sized : Option ℕ → OpEnd
len_sized None = unbuilt
len_sized (Some size) = opend.Give (value.Int (pos size))

abbrev pub len_row : List Object → Value → OpEnd
len_row h x = len_sized (size_of h x)
