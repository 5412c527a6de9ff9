-- The methods of lists and tuples (library reference, "Mutable Sequence Types").
use Rattle.std.specs.Prelude.{ℕ, ◌+◌, ℤ, pos, negsuc, List, [], ◌∷◌, ◌++◌, Option, Some, None, Result, Ok, Err, codes, if◌then◌else◌, unsigned_abs, length, slice_get, reverse, remove, insert}
use Rattle.std.specs.Str.{bytes_eq}
use Rattle.nu_run.specs.declared.StopKind.{StopKind}
use Rattle.nu_run.specs.declared.StopKind.TheVariants as stop
use Rattle.nu_value.specs.declared.object.Object.{Object}
use Rattle.nu_value.specs.declared.object.Object.TheVariants as object
use Rattle.nu_value.specs.declared.same.Sameness.{Sameness}
use Rattle.nu_value.specs.declared.same.Sameness.TheVariants as same
use Rattle.nu_value.specs.declared.value.Value.{Value}
use Rattle.nu_value.specs.declared.value.Value.TheVariants as value
use Rattle.nu_value.specs.Names.{NameList}
use Rattle.nu_value.specs.Same.{eq, number_of}
use Rattle.op_forms.specs.declared.end.OpEnd.{OpEnd}
use Rattle.op_forms.specs.declared.end.OpEnd.TheVariants as opend
use Rattle.op_forms.specs.Answers.{unbuilt}
use Rattle.op_forms.specs.Doing.{Fill, Doing, nothing, ends, changes, changes_giving, makes}
use Rattle.op_rules.specs.AskedValues.{asks_two, asks_all}
use Rattle.op_rules.specs.Items.{index_error, within_limit, pushed, place_in}
use Rattle.op_rules.specs.Kinds.{type_error, value_error}
use Rattle.op_rules.specs.SequenceOperators.{place_of_value}
use Rattle.op_rules.specs.Slices.{from_end, cut}

abbrev pub bad_argument : List ℕ → OpEnd
bad_argument name = type_error (codes "bad argument for " ++ name)

-- ---- `append` and `pop`

abbrev pub append_method : ℕ → List Value → List Value → Doing
append_method n items (v ∷ []) = pushed n items v
append_method n items args = nothing

abbrev pub taken_at : ℕ → List Value → OpEnd → ℕ → Option Value → Doing
taken_at n items error place None = ends error
taken_at n items error place (Some v) = changes_giving n (Fill (remove items place)) v

abbrev pub taken : ℕ → List Value → OpEnd → Option ℕ → Doing
taken n items error None = ends error
taken n items error (Some place) = taken_at n items error place (slice_get items place)

abbrev pub pop_error : List Value → OpEnd
pop_error [] = index_error (codes "pop from empty list")
pop_error (v ∷ vs) = index_error (codes "pop index out of range")

abbrev pub pop_at : ℕ → List Value → Option ℤ → Doing
pop_at n items None = ends (bad_argument (codes "pop"))
pop_at n items (Some i) = taken n items (pop_error items) (place_in (length items) i)

-- the last item, or the one at an index
abbrev pub pop_method : ℕ → List Value → List Value → Doing
pop_method n items [] = pop_at n items (Some (negsuc 0))
pop_method n items (i ∷ []) = pop_at n items (number_of i)
pop_method n items args = nothing

-- ---- `insert`

-- a place to insert at is cut to the list, as a bound of a slice is
abbrev pub insert_place : ℕ → ℤ → ℕ
insert_place count z = unsigned_abs (cut (pos 0) (pos count) (from_end count z))

abbrev pub insert_at : ℕ → List Value → Value → Option ℤ → Doing
insert_at n items v None = ends (bad_argument (codes "insert"))
insert_at n items v (Some z) = within_limit (length items + 1) (changes n (Fill (insert items (insert_place (length items) z) v)))

abbrev pub insert_method : ℕ → List Value → List Value → Doing
insert_method n items (i ∷ v ∷ []) = insert_at n items v (number_of i)
insert_method n items args = nothing

-- ---- `extend` and `sort`

abbrev pub extend_method : List Object → ℕ → List Value → Doing
extend_method h n (x ∷ []) = ends (asks_two h (codes "_nu_extend") (value.Obj n) x)
extend_method h n args = nothing

-- binding decides on the number of arguments
abbrev pub sort_method : List Object → ℕ → List Value → NameList → Doing
sort_method h n args names = ends (asks_all h (codes "_nu_listsort") (value.Obj n ∷ args) names)

-- ---- `remove`, `index` and `count`

abbrev pub removed : ℕ → List Value → Result (Option ℕ) StopKind → Doing
removed n items (Ok None) = ends (value_error (codes "list.remove(x): x not in list"))
removed n items (Ok (Some place)) = changes n (Fill (remove items place))
removed n items (Err kind) = ends (opend.Stop kind)

abbrev pub remove_method : List Object → ℕ → List Value → List Value → Doing
remove_method h n items (v ∷ []) = removed n items (place_of_value h v items)
remove_method h n items args = nothing

abbrev pub index_end : Result (Option ℕ) StopKind → OpEnd
index_end (Ok None) = value_error (codes "value is not in list")
index_end (Ok (Some place)) = opend.Give (value.Int (pos place))
index_end (Err kind) = opend.Stop kind

abbrev pub index_method : List Object → List Value → List Value → Doing
index_method h items (v ∷ []) = ends (index_end (place_of_value h v items))
index_method h items args = nothing

-- one more where an item is equal, and a stop where that can't be said
abbrev pub counted_by : Sameness → ℕ → (ℕ → OpEnd) → OpEnd
counted_by same.Equal count more = more (count + 1)
counted_by same.Different count more = more count
counted_by same.Depth count more = opend.Stop stop.Depth
counted_by same.Unbuilt count more = unbuilt

-- how many of the items are equal to a value, beside so many that were
abbrev pub count_from : List Object → Value → List Value → ℕ → OpEnd
count_from h v [] count = opend.Give (value.Int (pos count))
count_from h v (x ∷ xs) count = counted_by (eq h x v) count (count_from h v xs)

abbrev pub count_method : List Object → List Value → List Value → Doing
count_method h items (v ∷ []) = ends (count_from h v items 0)
count_method h items args = nothing

-- ---- `reverse`, `clear` and `copy`

abbrev pub reverse_method : ℕ → List Value → List Value → Doing
reverse_method n items [] = changes n (Fill (reverse items))
reverse_method n items args = nothing

abbrev pub clear_method : ℕ → List Value → Doing
clear_method n [] = changes n (Fill [])
clear_method n args = nothing

abbrev pub copy_method : List Object → List Value → List Value → Doing
copy_method h items [] = makes h (object.List items)
copy_method h items args = nothing

-- ---- by name

-- these take no keywords
abbrev pub plain_method : List ℕ → List Object → ℕ → List Value → List Value → Doing
plain_method name h n items args =
    if bytes_eq name (codes "append") then append_method n items args
    else if bytes_eq name (codes "pop") then pop_method n items args
    else if bytes_eq name (codes "insert") then insert_method n items args
    else if bytes_eq name (codes "extend") then extend_method h n args
    else if bytes_eq name (codes "remove") then remove_method h n items args
    else if bytes_eq name (codes "index") then index_method h items args
    else if bytes_eq name (codes "count") then count_method h items args
    else if bytes_eq name (codes "reverse") then reverse_method n items args
    else if bytes_eq name (codes "clear") then clear_method n args
    else if bytes_eq name (codes "copy") then copy_method h items args
    else nothing

abbrev pub without_keywords : NameList → Doing → Doing
without_keywords [] d = d
without_keywords (p ∷ ps) d = nothing

abbrev pub list_method : List ℕ → List Object → ℕ → List Value → List Value → NameList → Doing
list_method name h n items args names =
    if bytes_eq name (codes "sort") then sort_method h n args names else without_keywords names (plain_method name h n items args)

abbrev pub tuple_method : List ℕ → List Object → List Value → List Value → Doing
tuple_method name h items args =
    if bytes_eq name (codes "index") then index_method h items args
    else if bytes_eq name (codes "count") then count_method h items args
    else nothing

-- a method of the object of a number
abbrev pub method_on : List ℕ → List Object → ℕ → List Value → NameList → Option Object → Doing
method_on name h n args names (Some (object.List items)) = list_method name h n items args names
method_on name h n args names (Some (object.Tuple items)) = without_keywords names (tuple_method name h items args)
method_on name h n args names other = nothing
