-- The items of lists, tuples and ranges (reference, section 6.3.2, and library reference, "Common Sequence Operations").
use Rattle.std.specs.Prelude.{ℕ, ◌+◌, ◌-◌, ◌^◌, ℤ, pos, negsuc, ◌+ℤ◌, ◌*ℤ◌, List, [], ◌∷◌, ◌++◌, Option, Some, None, codes, if◌then◌else◌, nat_lt, nat_le, length, slice_get, slice_set, remove}
use Rattle.nu_run.specs.declared.StopKind.TheVariants as stop
use Rattle.nu_value.specs.declared.object.Object.{Object}
use Rattle.nu_value.specs.declared.object.Object.TheVariants as object
use Rattle.nu_value.specs.declared.value.Value.{Value}
use Rattle.nu_value.specs.declared.value.Value.TheVariants as value
use Rattle.nu_value.specs.Ranges.{range_count}
use Rattle.nu_value.specs.Same.{number_of, object_of}
use Rattle.op_forms.specs.declared.end.OpEnd.{OpEnd}
use Rattle.op_forms.specs.declared.end.OpEnd.TheVariants as opend
use Rattle.op_forms.specs.Doing.{Fill, Doing, nothing, ends, changes, makes}
use Rattle.op_rules.specs.Access.{not_subscriptable, no_item_changes}
use Rattle.op_rules.specs.Kinds.{kind_name, raised, type_error}
use Rattle.op_rules.specs.NameRows.{value_or}
use Rattle.op_rules.specs.TextRows.{size_limit}

abbrev pub index_error : List ℕ → OpEnd
index_error = raised 28

-- where a list or tuple would have so many items: it has no more than the limit
abbrev pub within_limit : ℕ → Doing → Doing
within_limit count d = if nat_le count size_limit then d else ends (opend.Stop stop.Size)

-- ---- displays

abbrev pub tuple_row : List Object → List Value → Doing
tuple_row h items = within_limit (length items) (makes h (object.Tuple items))

abbrev pub list_row : List Object → List Value → Doing
list_row h items = within_limit (length items) (makes h (object.List items))

-- a value at the end of the list of a number
abbrev pub pushed : ℕ → List Value → Value → Doing
pushed n items v = within_limit (length items + 1) (changes n (Fill (items ++ v ∷ [])))

abbrev pub push_on : ℕ → Value → Option Object → Doing
push_on n v (Some (object.List items)) = pushed n items v
push_on n v other = nothing

abbrev pub push_row : List Object → Value → Value → Doing
push_row h (value.Obj n) v = push_on n v (slice_get h n)
push_row h l v = nothing

-- ---- the place of an item

-- the place that an index means among so many: a negative one counts from the end
abbrev pub place_in : ℕ → ℤ → Option ℕ
place_in count (pos i) = if nat_lt i count then Some i else None
place_in count (negsuc i) = if nat_lt i count then Some (count - (i + 1)) else None

abbrev pub item_at : List Value → Option ℕ → Option Value
item_at items None = None
item_at items (Some i) = slice_get items i

abbrev pub out_of_range : List ℕ → OpEnd
out_of_range kind = index_error (kind ++ codes " index out of range")

abbrev pub no_index : List ℕ → OpEnd
no_index kind = type_error (kind ++ codes " indices must be integers")

-- ---- reading

abbrev pub item_of : List ℕ → List Value → Option ℤ → OpEnd
item_of kind items None = no_index kind
item_of kind items (Some i) = value_or (item_at items (place_in (length items) i)) (out_of_range kind)

-- the number at a place of a range
abbrev pub number_at : ℤ → ℤ → ℕ → ℤ
number_at start step place = start +ℤ step *ℤ pos place

abbrev pub number_or : ℤ → ℤ → Option ℕ → OpEnd
number_or start step None = out_of_range (codes "range")
number_or start step (Some place) = opend.Give (value.Int (number_at start step place))

abbrev pub range_item : ℤ → ℤ → ℤ → Option ℤ → OpEnd
range_item start stop step None = no_index (codes "range")
range_item start stop step (Some i) = number_or start step (place_in (range_count start stop step) i)

abbrev pub index_on : List Object → Value → Value → Option Object → OpEnd
index_on h x i (Some (object.List items)) = item_of (codes "list") items (number_of i)
index_on h x i (Some (object.Tuple items)) = item_of (codes "tuple") items (number_of i)
index_on h x i (Some (object.Range start stop step)) = range_item start stop step (number_of i)
index_on h x i other = not_subscriptable h x

-- `x[i]`
abbrev pub index_row : List Object → Value → Value → OpEnd
index_row h x i = index_on h x i (object_of h x)

-- ---- writing

abbrev pub item_set : ℕ → List Value → Value → Option ℕ → Doing
item_set n items v None = ends (out_of_range (codes "list"))
item_set n items v (Some i) = changes n (Fill (slice_set items i v))

abbrev pub list_set : ℕ → List Value → Value → Option ℤ → Doing
list_set n items v None = ends (no_index (codes "list"))
list_set n items v (Some i) = item_set n items v (place_in (length items) i)

abbrev pub setindex_on : List Object → ℕ → Value → Value → Option Object → Doing
setindex_on h n i v (Some (object.List items)) = list_set n items v (number_of i)
setindex_on h n i v other = ends (no_item_changes h (value.Obj n))

-- `x[i] = v`: a list alone has items that can be replaced
abbrev pub setindex_row : List Object → Value → Value → Value → Doing
setindex_row h (value.Obj n) i v = setindex_on h n i v (slice_get h n)
setindex_row h x i v = ends (no_item_changes h x)

abbrev pub item_deleted : ℕ → List Value → Option ℕ → Doing
item_deleted n items None = ends (out_of_range (codes "list"))
item_deleted n items (Some i) = changes n (Fill (remove items i))

abbrev pub list_delete : ℕ → List Value → Option ℤ → Doing
list_delete n items None = ends (no_index (codes "list"))
list_delete n items (Some i) = item_deleted n items (place_in (length items) i)

abbrev pub delindex_on : List Object → ℕ → Value → Option Object → Doing
delindex_on h n i (Some (object.List items)) = list_delete n items (number_of i)
delindex_on h n i other = ends (no_item_changes h (value.Obj n))

-- `del x[i]`
abbrev pub delindex_row : List Object → Value → Value → Doing
delindex_row h (value.Obj n) i = delindex_on h n i (slice_get h n)
delindex_row h x i = ends (no_item_changes h x)

-- ---- `len`

abbrev pub no_len : List Object → Value → OpEnd
no_len h x = type_error (codes "object of type '" ++ kind_name h x ++ codes "' has no len()")

abbrev pub give_count : ℕ → OpEnd
give_count count = opend.Give (value.Int (pos count))

-- a range may have more numbers than the largest integer says
abbrev pub count_end : ℕ → OpEnd
count_end count = if nat_lt count (2 ^ 127) then give_count count else opend.Stop stop.Int

abbrev pub len_on : List Object → Value → Option Object → OpEnd
len_on h x (Some (object.List items)) = give_count (length items)
len_on h x (Some (object.Tuple items)) = give_count (length items)
len_on h x (Some (object.Range start stop step)) = count_end (range_count start stop step)
len_on h x other = no_len h x

abbrev pub len_row : List Object → Value → OpEnd
len_row h x = len_on h x (object_of h x)
