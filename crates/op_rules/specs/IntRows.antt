-- The rows on integers, on objects without operations of their own, and on any two values.
use Rattle.std.specs.Prelude.{ℤ, List, [], ◌∷◌, Option, Some, None, Bool, not, ◌&&◌, ◌||◌}
use Rattle.std.specs.Bool.{beq}
use Rattle.std.specs.Ordering.{int_cmp}
use Rattle.nu_run.specs.declared.StopKind.TheVariants as stop
use Rattle.nu_value.specs.declared.value.Value.{Value}
use Rattle.nu_value.specs.declared.value.Value.TheVariants as value
use Rattle.nu_value.specs.declared.object.Object.{Object}
use Rattle.nu_value.specs.Same.{number_of}
use Rattle.op_forms.specs.declared.end.OpEnd.{OpEnd}
use Rattle.op_forms.specs.declared.end.OpEnd.TheVariants as opend
use Rattle.op_forms.specs.declared.op.Op.{Op}
use Rattle.op_forms.specs.declared.op.Op.TheVariants as op
use Rattle.op_rules.specs.Kinds.{no_operand, no_operands, no_order}
use Rattle.op_forms.specs.Signs.{sign_of}
use Rattle.op_rules.specs.Numbers.{int_op, unary_op, computed_end}
use Rattle.op_rules.specs.Comparisons.{give_bool, eq_row, ne_row, is_row, isnot_row, not_row, truth_row, holds}

abbrev pub of_one : (Value → OpEnd) → List Value → OpEnd
of_one f (a ∷ []) = f a
of_one f other = opend.Stop stop.Unbuilt

abbrev pub of_two : (Value → Value → OpEnd) → List Value → OpEnd
of_two f (a ∷ b ∷ []) = f a b
of_two f other = opend.Stop stop.Unbuilt

abbrev pub on_number : (ℤ → OpEnd) → OpEnd → Option ℤ → OpEnd
on_number f other None = other
on_number f other (Some a) = f a

abbrev pub on_numbers : (ℤ → ℤ → OpEnd) → OpEnd → Option ℤ → Option ℤ → OpEnd
on_numbers f other None b = other
on_numbers f other (Some a) None = other
on_numbers f other (Some a) (Some b) = f a b

abbrev pub on_bools : (Bool → Bool → Bool) → Value → Value → Option Bool
on_bools f (value.Bool a) (value.Bool b) = Some (f a b)
on_bools f a b = None

-- two bools give a bool
abbrev pub bool_op : Op → Value → Value → Option Bool
bool_op op.And a b = on_bools (λ a b. a && b) a b
bool_op op.Or a b = on_bools (λ a b. a || b) a b
bool_op op.Xor a b = on_bools (λ a b. not (beq a b)) a b
bool_op other a b = None

abbrev pub bool_or : Option Bool → OpEnd → OpEnd
bool_or None other = other
bool_or (Some b) other = give_bool b

-- an operation on two numbers, of which a bool is one
abbrev pub number_pair : Op → List Object → Value → Value → OpEnd
number_pair o h a b = bool_or (bool_op o a b) (on_numbers (λ x y. computed_end (int_op o x y)) (no_operands (sign_of o) h a b) (number_of a) (number_of b))

abbrev pub number_order : Op → List Object → Value → Value → OpEnd
number_order o h a b =
    on_numbers (λ x y. give_bool (holds o (int_cmp x y))) (no_order (sign_of o) h a b) (number_of a) (number_of b)

abbrev pub number_one : Op → List Object → Value → OpEnd
number_one o h a = on_number (λ x. computed_end (unary_op o x)) (no_operand (sign_of o) h a) (number_of a)

abbrev pub int_row : Op → List Object → List Value → OpEnd
int_row op.Add h args = of_two (number_pair op.Add h) args
int_row op.Sub h args = of_two (number_pair op.Sub h) args
int_row op.Mul h args = of_two (number_pair op.Mul h) args
int_row op.FloorDiv h args = of_two (number_pair op.FloorDiv h) args
int_row op.Mod h args = of_two (number_pair op.Mod h) args
int_row op.Pow h args = of_two (number_pair op.Pow h) args
int_row op.LShift h args = of_two (number_pair op.LShift h) args
int_row op.RShift h args = of_two (number_pair op.RShift h) args
int_row op.And h args = of_two (number_pair op.And h) args
int_row op.Or h args = of_two (number_pair op.Or h) args
int_row op.Xor h args = of_two (number_pair op.Xor h) args
int_row op.IAdd h args = of_two (number_pair op.IAdd h) args
int_row op.IMul h args = of_two (number_pair op.IMul h) args
int_row op.Lt h args = of_two (number_order op.Lt h) args
int_row op.Le h args = of_two (number_order op.Le h) args
int_row op.Gt h args = of_two (number_order op.Gt h) args
int_row op.Ge h args = of_two (number_order op.Ge h) args
int_row op.Neg h args = of_one (number_one op.Neg h) args
int_row op.Pos h args = of_one (number_one op.Pos h) args
int_row op.Inv h args = of_one (number_one op.Inv h) args
int_row op.Eq h args = of_two (eq_row h) args
int_row op.Ne h args = of_two (ne_row h) args
int_row op.Is h args = of_two is_row args
int_row op.IsNot h args = of_two isnot_row args
int_row op.Not h args = of_one not_row args
int_row op.Truth h args = of_one (truth_row h) args
int_row other h args = opend.Stop stop.Unbuilt
