-- Slices (reference, section 6.3.3).
use Rattle.std.specs.Prelude.{ℕ, zero, suc, ℤ, pos, negsuc, ◌+ℤ◌, ◌-ℤ◌, List, [], ◌++◌, Option, Some, None, Bool, true, false, ◌&&◌, codes, if◌then◌else◌, int_lt, length, slice_get}
use Rattle.std.specs.Option.{option_to_list}
use Rattle.std.specs.Ordering.{int_eq}
use Rattle.nu_value.specs.declared.object.Object.{Object}
use Rattle.nu_value.specs.declared.object.Object.TheVariants as object
use Rattle.nu_value.specs.declared.value.Value.{Value}
use Rattle.nu_value.specs.declared.value.Value.TheVariants as value
use Rattle.nu_value.specs.Ranges.{range_count}
use Rattle.nu_value.specs.Same.{number_of, object_of}
use Rattle.op_forms.specs.declared.end.OpEnd.{OpEnd}
use Rattle.op_forms.specs.Doing.{Doing, nothing, ends, makes}
use Rattle.op_rules.specs.Access.{not_subscriptable}
use Rattle.op_rules.specs.Kinds.{type_error, value_error}

-- ---- bounds

-- a bound is None or counts as a number
abbrev pub is_bound : Value → Bool
is_bound value.None = true
is_bound (value.Bool b) = true
is_bound (value.Int z) = true
is_bound other = false

-- a negative bound gets the length added
abbrev pub from_end : ℕ → ℤ → ℤ
from_end count (pos i) = pos i
from_end count (negsuc i) = negsuc i +ℤ pos count

-- no less than the first and no more than the second of two numbers
abbrev pub cut : ℤ → ℤ → ℤ → ℤ
cut low high z = if int_lt z low then low else if int_lt high z then high else z

-- a bound that isn't given is another number
abbrev pub bound : ℕ → ℤ → ℤ → ℤ → Option ℤ → ℤ
bound count missing low high None = missing
bound count missing low high (Some z) = cut low high (from_end count z)

-- upward the bounds lie from 0 to the length, downward from -1 to the last place
abbrev pub first_place : ℕ → ℤ → Option ℤ → ℤ
first_place count step start =
    if int_lt (pos 0) step then bound count (pos 0) (pos 0) (pos count) start else bound count (pos count -ℤ pos 1) (negsuc 0) (pos count -ℤ pos 1) start

abbrev pub end_place : ℕ → ℤ → Option ℤ → ℤ
end_place count step stop =
    if int_lt (pos 0) step then bound count (pos count) (pos 0) (pos count) stop else bound count (negsuc 0) (negsuc 0) (pos count -ℤ pos 1) stop

-- ---- items

abbrev pub item_from : List Value → ℤ → Option Value
item_from items (pos i) = slice_get items i
item_from items (negsuc i) = None

abbrev pub item_list : List Value → ℤ → List Value
item_list items place = option_to_list (item_from items place)

-- so many items, from a place on in steps
abbrev pub picked : List Value → ℤ → ℤ → ℕ → List Value
picked items place step zero = []
picked items place step (suc n) = item_list items place ++ picked items (place +ℤ step) step n

-- the items at the numbers of a range of places
abbrev pub between : List Value → ℤ → ℤ → ℤ → List Value
between items first end step = picked items first step (range_count first end step)

abbrev pub sliced : List Value → Option ℤ → Option ℤ → ℤ → List Value
sliced items start stop step = between items (first_place (length items) step start) (end_place (length items) step stop) step

-- a step that isn't given is 1
abbrev pub step_of : Option ℤ → ℤ
step_of None = pos 1
step_of (Some z) = z

-- ---- the row

abbrev pub no_bound : OpEnd
no_bound = type_error (codes "slice indices must be integers or None")

abbrev pub no_step : OpEnd
no_step = value_error (codes "slice step cannot be zero")

abbrev pub are_bounds : Value → Value → Value → Bool
are_bounds start stop step = is_bound start && (is_bound stop && is_bound step)

-- why bounds are none, if they aren't: each is looked at before the step is compared with zero
abbrev pub refused : Value → Value → Value → Option OpEnd
refused start stop step =
    if are_bounds start stop step then (if int_eq (step_of (number_of step)) (pos 0) then Some no_step else None) else Some no_bound

abbrev pub slice_or : List Object → (List Value → Object) → List Value → Value → Value → Value → Option OpEnd → Doing
slice_or h kind items start stop step (Some e) = ends e
slice_or h kind items start stop step None = makes h (kind (sliced items (number_of start) (number_of stop) (step_of (number_of step))))

-- an object of the items of a slice
abbrev pub slice_of : List Object → (List Value → Object) → List Value → Value → Value → Value → Doing
slice_of h kind items start stop step = slice_or h kind items start stop step (refused start stop step)

-- a slice of a range is left out
abbrev pub slice_on : List Object → Value → Value → Value → Value → Option Object → Doing
slice_on h x start stop step (Some (object.List items)) = slice_of h object.List items start stop step
slice_on h x start stop step (Some (object.Tuple items)) = slice_of h object.Tuple items start stop step
slice_on h x start stop step (Some (object.Range first end by)) = nothing
slice_on h x start stop step other = ends (not_subscriptable h x)

-- `x[start:stop:step]`
abbrev pub slice_row : List Object → Value → Value → Value → Value → Doing
slice_row h x start stop step = slice_on h x start stop step (object_of h x)
