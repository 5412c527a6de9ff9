-- Special methods: what the class of an instance decides of operations on it (reference, section 3.3).
use Rattle.std.specs.Prelude.{ℕ, List, [], ◌∷◌, ◌++◌, Option, Some, None, Bool, true, false, ◌||◌, codes, if◌then◌else◌}
use Rattle.nu_value.specs.declared.object.Object.{Object}
use Rattle.nu_value.specs.declared.object.Object.TheVariants as object
use Rattle.nu_value.specs.declared.value.Value.{Value}
use Rattle.nu_value.specs.declared.value.Value.TheVariants as value
use Rattle.nu_value.specs.Classes.{found_in}
use Rattle.nu_value.specs.Same.{object_of}
use Rattle.nu_value.specs.View.{is_text}
use Rattle.op_forms.specs.declared.end.After.{After}
use Rattle.op_forms.specs.declared.end.After.TheVariants as behind
use Rattle.op_forms.specs.declared.end.OpEnd.{OpEnd}
use Rattle.op_forms.specs.declared.end.OpEnd.TheVariants as opend
use Rattle.op_forms.specs.declared.op.Op.{Op}
use Rattle.op_forms.specs.declared.op.Op.TheVariants as op
use Rattle.op_forms.specs.Answers.{unbuilt}
use Rattle.op_forms.specs.Fits.{is_dict, is_list}
use Rattle.op_forms.specs.Signs.{sign_of}
use Rattle.op_rules.specs.declared.special.Special.{Special}
use Rattle.op_rules.specs.declared.special.Special.TheVariants as special
use Rattle.op_rules.specs.Access.{not_subscriptable, no_item_changes, no_iterator, asks_iterator, asks_in}
use Rattle.op_rules.specs.Asking.{asks}
use Rattle.op_rules.specs.Comparisons.{give_bool}
use Rattle.op_rules.specs.IntRows.{of_one, of_two}
use Rattle.op_rules.specs.Kinds.{kind_name, type_error, no_operand, no_operands, no_order}
use Rattle.op_rules.specs.Subclasses.{is_class}

-- ---- what is found

abbrev pub found_object : List Object → Option Value → Option Object
found_object h None = None
found_object h (Some v) = object_of h v

-- a special method has to be a function
abbrev pub special_as : Option Value → Option Object → Special
special_as None o = special.Absent
special_as (Some (value.Obj f)) (Some (object.Function code defaults keywords cells)) = special.Function f
special_as (Some v) o = special.Other

-- on a class, or on the nearest class outward
abbrev pub special_in : List Object → ℕ → List ℕ → Special
special_in h class name = special_as (found_in h class name) (found_object h (found_in h class name))

-- those of an instance decide operations
abbrev pub instance_special : List Object → Option Object → List ℕ → Special
instance_special h (Some (object.Instance class fields)) name = special_in h class name
instance_special h other name = special.Absent

-- those of an exception are found by their names, too
abbrev pub any_special : List Object → Option Object → List ℕ → Special
any_special h (Some (object.Instance class fields)) name = special_in h class name
any_special h (Some (object.Exception class args entries fields cause)) name = special_in h class name
any_special h other name = special.Absent

-- it is asked; where there is none, something else comes
abbrev pub asks_special : Special → List Value → After → OpEnd → OpEnd
asks_special special.Absent args a other = other
asks_special (special.Function f) args a other = opend.Ask f args [] a
asks_special special.Other args a other = unbuilt

abbrev pub by_special : List Object → Value → List ℕ → List Value → After → OpEnd → OpEnd
by_special h x name args a other = asks_special (instance_special h (object_of h x) name) args a other

-- ---- items and iteration

abbrev pub special_index : List Object → Value → Value → OpEnd
special_index h x i = by_special h x (codes "__getitem__") (x ∷ i ∷ []) behind.Plain (not_subscriptable h x)

abbrev pub special_setindex : List Object → Value → Value → Value → OpEnd
special_setindex h x i v = by_special h x (codes "__setitem__") (x ∷ i ∷ v ∷ []) behind.Plain (no_item_changes h x)

abbrev pub special_delindex : List Object → Value → Value → OpEnd
special_delindex h x i = by_special h x (codes "__delitem__") (x ∷ i ∷ []) behind.Plain (no_item_changes h x)

-- an instance is given no slices
abbrev pub slice_on : List Object → Value → Option Object → OpEnd
slice_on h x (Some (object.Instance class fields)) = unbuilt
slice_on h x other = not_subscriptable h x

abbrev pub special_next : List Object → Value → OpEnd
special_next h x = by_special h x (codes "__next__") (x ∷ []) behind.Plain (no_iterator h x)

-- ---- truth and length

abbrev pub truth_by_length : List Object → Value → OpEnd
truth_by_length h x = by_special h x (codes "__len__") (x ∷ []) behind.Some (give_bool true)

abbrev pub special_truth : List Object → Value → OpEnd
special_truth h x = by_special h x (codes "__bool__") (x ∷ []) behind.Truth (truth_by_length h x)

abbrev pub no_length : List Object → Value → OpEnd
no_length h x = type_error (codes "object of type '" ++ kind_name h x ++ codes "' has no len()")

abbrev pub special_length : List Object → Value → OpEnd
special_length h x = by_special h x (codes "__len__") (x ∷ []) behind.Length (no_length h x)

-- ---- operators

abbrev pub is_view : Option Object → Bool
is_view (Some (object.View dict kind)) = true
is_view other = false

-- a view beside something else
abbrev pub has_view : List Object → Value → Value → Bool
has_view h a b = is_view (object_of h a) || is_view (object_of h b)

-- a dict or a class before `|`, or a class behind it
abbrev pub may_unite : List Object → Value → Value → Bool
may_unite h a b = is_dict (object_of h a) || (is_class (object_of h a) || is_class (object_of h b))

-- a list takes the items of what is added to it
abbrev pub add_to : Op → List Object → Value → Value → OpEnd
add_to o h a b =
    if is_list (object_of h a) then asks h (codes "_nu_addto") (a ∷ b ∷ []) [] behind.Plain else no_operands (sign_of o) h a b

-- classes, instances and exceptions have no operators; what stands beside them may want more than an error
abbrev pub plain_pair : Op → List Object → Value → Value → OpEnd
plain_pair op.Mod h a b = if is_text a then unbuilt else no_operands (sign_of op.Mod) h a b
plain_pair op.Or h a b = if may_unite h a b then unbuilt else no_operands (sign_of op.Or) h a b
plain_pair op.IAdd h a b = add_to op.IAdd h a b
plain_pair o h a b = no_operands (sign_of o) h a b

abbrev pub special_pair : Op → List Object → Value → Value → OpEnd
special_pair o h a b = if has_view h a b then unbuilt else plain_pair o h a b

abbrev pub special_order : Op → List Object → Value → Value → OpEnd
special_order o h a b = if has_view h a b then unbuilt else no_order (sign_of o) h a b

-- ---- the rows

abbrev pub of_three : (Value → Value → Value → OpEnd) → List Value → OpEnd
of_three f (a ∷ b ∷ c ∷ []) = f a b c
of_three f other = unbuilt

abbrev pub of_four : (Value → Value → Value → Value → OpEnd) → List Value → OpEnd
of_four f (a ∷ b ∷ c ∷ d ∷ []) = f a b c d
of_four f other = unbuilt

abbrev pub special_row : Op → List Object → List Value → OpEnd
special_row op.Index h args = of_two (special_index h) args
special_row op.SetIndex h args = of_three (special_setindex h) args
special_row op.DelIndex h args = of_two (special_delindex h) args
special_row op.Slice h args = of_four (λ x a b c. slice_on h x (object_of h x)) args
special_row op.Iter h args = of_one (asks_iterator h) args
special_row op.Next h args = of_one (special_next h) args
special_row op.In h args = of_two (asks_in h) args
special_row op.Truth h args = of_one (special_truth h) args
special_row op.Add h args = of_two (special_pair op.Add h) args
special_row op.Sub h args = of_two (special_pair op.Sub h) args
special_row op.Mul h args = of_two (special_pair op.Mul h) args
special_row op.FloorDiv h args = of_two (special_pair op.FloorDiv h) args
special_row op.Mod h args = of_two (special_pair op.Mod h) args
special_row op.Pow h args = of_two (special_pair op.Pow h) args
special_row op.LShift h args = of_two (special_pair op.LShift h) args
special_row op.RShift h args = of_two (special_pair op.RShift h) args
special_row op.And h args = of_two (special_pair op.And h) args
special_row op.Or h args = of_two (special_pair op.Or h) args
special_row op.Xor h args = of_two (special_pair op.Xor h) args
special_row op.IAdd h args = of_two (special_pair op.IAdd h) args
special_row op.IMul h args = of_two (special_pair op.IMul h) args
special_row op.Lt h args = of_two (special_order op.Lt h) args
special_row op.Le h args = of_two (special_order op.Le h) args
special_row op.Gt h args = of_two (special_order op.Gt h) args
special_row op.Ge h args = of_two (special_order op.Ge h) args
special_row op.Neg h args = of_one (no_operand (sign_of op.Neg) h) args
special_row op.Pos h args = of_one (no_operand (sign_of op.Pos) h) args
special_row op.Inv h args = of_one (no_operand (sign_of op.Inv) h) args
special_row other h args = unbuilt
