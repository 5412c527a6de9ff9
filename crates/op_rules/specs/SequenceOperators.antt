-- The operators on lists, tuples, ranges and iterators (library reference, "Common Sequence Operations" and "Mutable Sequence Types").
use Rattle.std.specs.Prelude.{ℕ, zero, suc, ◌+◌, ◌*◌, ◌%◌, ℤ, pos, ◌-ℤ◌, List, [], ◌∷◌, ◌++◌, Option, Some, None, Result, Ok, Err, Bool, true, false, not, ◌&&◌, ◌||◌, ◌==◌, codes, if◌then◌else◌, int_le, int_lt, nat_le, unsigned_abs, length, slice_get}
use Rattle.std.specs.Ordering.{int_eq}
use Rattle.nu_run.specs.declared.StopKind.{StopKind}
use Rattle.nu_run.specs.declared.StopKind.TheVariants as stop
use Rattle.nu_value.specs.declared.object.Object.{Object}
use Rattle.nu_value.specs.declared.object.Object.TheVariants as object
use Rattle.nu_value.specs.declared.same.Sameness.{Sameness}
use Rattle.nu_value.specs.declared.same.Sameness.TheVariants as same
use Rattle.nu_value.specs.declared.value.Value.{Value}
use Rattle.nu_value.specs.declared.value.Value.TheVariants as value
use Rattle.nu_value.specs.Ranges.{range_count}
use Rattle.nu_value.specs.Same.{eq, number_of, object_of}
use Rattle.op_forms.specs.declared.end.OpEnd.{OpEnd}
use Rattle.op_forms.specs.declared.end.OpEnd.TheVariants as opend
use Rattle.op_forms.specs.declared.op.Op.{Op}
use Rattle.op_forms.specs.declared.op.Op.TheVariants as op
use Rattle.op_forms.specs.Answers.{unbuilt}
use Rattle.op_forms.specs.Doing.{Fill, Doing, ends, makes, changes_giving}
use Rattle.op_forms.specs.Signs.{sign_of}
use Rattle.op_rules.specs.Access.{asks_in}
use Rattle.op_rules.specs.AskedValues.{asks_two}
use Rattle.op_rules.specs.Comparisons.{give_bool}
use Rattle.op_rules.specs.Items.{within_limit}
use Rattle.op_rules.specs.Kinds.{no_operands}
use Rattle.op_rules.specs.TextRows.{copy_count, size_limit}

-- ---- `+`

-- two lists make a list, and two tuples a tuple
abbrev pub add_on : List Object → Doing → Option Object → Option Object → Doing
add_on h other (Some (object.List xs)) (Some (object.List ys)) = within_limit (length xs + length ys) (makes h (object.List (xs ++ ys)))
add_on h other (Some (object.Tuple xs)) (Some (object.Tuple ys)) = within_limit (length xs + length ys) (makes h (object.Tuple (xs ++ ys)))
add_on h other x y = other

abbrev pub add_row : Op → List Object → Value → Value → Doing
add_row o h a b = add_on h (ends (no_operands (sign_of o) h a b)) (object_of h a) (object_of h b)

-- in place a function of the built-in text adds to a list
abbrev pub iadd_on : List Object → Value → Value → Option Object → Doing
iadd_on h a b (Some (object.List items)) = ends (asks_two h (codes "_nu_addto") a b)
iadd_on h a b other = add_row op.IAdd h a b

abbrev pub iadd_row : List Object → Value → Value → Doing
iadd_row h a b = iadd_on h a b (object_of h a)

-- ---- `*`

-- the items of a list, so many times
abbrev pub repeats : ℕ → List Value → List Value
repeats zero items = []
repeats (suc n) items = items ++ repeats n items

-- unless they are too many
abbrev pub repeated : List Value → ℕ → Option (List Value)
repeated items n = if nat_le (length items * n) size_limit then Some (repeats n items) else None

abbrev pub or_size : (List Value → Doing) → Option (List Value) → Doing
or_size into None = ends (opend.Stop stop.Size)
or_size into (Some all) = into all

abbrev pub repeated_into : (List Value → Doing) → List Value → ℕ → Doing
repeated_into into items n = or_size into (repeated items n)

-- a list or a tuple, and how often
abbrev pub mul_on : List Object → Doing → Option Object → Option ℤ → Doing
mul_on h other (Some (object.List items)) (Some z) = repeated_into (λ all. makes h (object.List all)) items (copy_count z)
mul_on h other (Some (object.Tuple items)) (Some z) = repeated_into (λ all. makes h (object.Tuple all)) items (copy_count z)
mul_on h other x n = other

-- on either side
abbrev pub mul_row : Op → List Object → Value → Value → Doing
mul_row o h a b = mul_on h (mul_on h (ends (no_operands (sign_of o) h a b)) (object_of h b) (number_of a)) (object_of h a) (number_of b)

-- in place a list is repeated
abbrev pub imul_on : List Object → ℕ → Value → Option Object → Option ℤ → Doing
imul_on h n b (Some (object.List items)) (Some z) = repeated_into (λ all. changes_giving n (Fill all) (value.Obj n)) items (copy_count z)
imul_on h n b x y = mul_row op.IMul h (value.Obj n) b

abbrev pub imul_row : List Object → Value → Value → Doing
imul_row h (value.Obj n) b = imul_on h n b (slice_get h n) (number_of b)
imul_row h a b = mul_row op.IMul h a b

-- `%` with a text on the left formats it, which is left out
abbrev pub mod_row : List Object → Value → Value → Doing
mod_row h (value.Str text) b = ends unbuilt
mod_row h a b = ends (no_operands (sign_of op.Mod) h a b)

-- ---- `in`

-- the first place from which on an item is equal to a value, if there is one, or the stop that comes before
abbrev pub found_by : Sameness → Result (Option ℕ) StopKind → ℕ → Result (Option ℕ) StopKind
found_by same.Equal more place = Ok (Some place)
found_by same.Different more place = more
found_by same.Depth more place = Err stop.Depth
found_by same.Unbuilt more place = Err stop.Unbuilt

abbrev pub found_from : List Object → Value → ℕ → List Value → Result (Option ℕ) StopKind
found_from h v place [] = Ok None
found_from h v place (x ∷ xs) = found_by (eq h x v) (found_from h v (place + 1) xs) place

abbrev pub place_of_value : List Object → Value → List Value → Result (Option ℕ) StopKind
place_of_value h v items = found_from h v 0 items

abbrev pub is_found : Option ℕ → Bool
is_found None = false
is_found (Some place) = true

abbrev pub in_end : Result (Option ℕ) StopKind → OpEnd
in_end (Ok place) = give_bool (is_found place)
in_end (Err kind) = opend.Stop kind

abbrev pub is_between : ℤ → ℤ → ℤ → ℤ → Bool
is_between start stop step z = int_lt (pos 0) step && (int_le start z && int_lt z stop) || int_lt step (pos 0) && (int_lt stop z && int_le z start)

abbrev pub is_in_steps : ℤ → ℤ → ℤ → Bool
is_in_steps start step z = not (int_eq step (pos 0)) && (unsigned_abs (z -ℤ start) % unsigned_abs step == 0)

-- whether a range gives a number: between the bounds, and a number of steps from the first
abbrev pub range_has : ℤ → ℤ → ℤ → ℤ → Bool
range_has start stop step z = is_between start stop step z && is_in_steps start step z

-- no other value is equal to a number; of a view that isn't said
abbrev pub other_in_range : ℕ → Option Object → OpEnd
other_in_range count (Some (object.View dict kind)) = if count == 0 then give_bool false else unbuilt
other_in_range count other = give_bool false

abbrev pub in_range_of : List Object → ℤ → ℤ → ℤ → Value → Option ℤ → OpEnd
in_range_of h start stop step v (Some z) = give_bool (range_has start stop step z)
in_range_of h start stop step v None = other_in_range (range_count start stop step) (object_of h v)

abbrev pub in_on : List Object → Value → Value → Option Object → OpEnd
in_on h v c (Some (object.List items)) = in_end (place_of_value h v items)
in_on h v c (Some (object.Tuple items)) = in_end (place_of_value h v items)
in_on h v c (Some (object.Range start stop step)) = in_range_of h start stop step v (number_of v)
in_on h v c other = asks_in h v c

abbrev pub in_row : List Object → Value → Value → OpEnd
in_row h v c = in_on h v c (object_of h c)
