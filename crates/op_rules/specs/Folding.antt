-- What foldable operations give for constants, case by case.
use Rattle.std.specs.Prelude.{ℤ, List, [], ◌∷◌, Option, Some, None, Bool, not, ◌||◌, option_map}
use Rattle.std.specs.Ordering.{int_cmp}
use Rattle.std.specs.declared.cmp.Ordering.{Ordering}
use Rattle.nu_value.specs.Same.{identical, number_of, numbers_eq}
use Rattle.op_forms.specs.declared.constant.Const.{Const}
use Rattle.op_forms.specs.declared.constant.Const.TheVariants as const
use Rattle.op_forms.specs.declared.op.Op.{Op}
use Rattle.op_forms.specs.declared.op.Op.TheVariants as op
use Rattle.op_rules.specs.Comparisons.{holds, text_cmp, not_row, truth_row}
use Rattle.op_forms.specs.Constants.{value_of}
use Rattle.op_rules.specs.Foldable.{given}
use Rattle.op_rules.specs.IntRows.{number_one, number_pair}

abbrev pub const_eq : Const → Const → Bool
const_eq a b = identical (value_of a) (value_of b) || numbers_eq (number_of (value_of a)) (number_of (value_of b))

abbrev pub numbers_order : Option ℤ → Option ℤ → Option Ordering
numbers_order None b = None
numbers_order (Some a) None = None
numbers_order (Some a) (Some b) = Some (int_cmp a b)

abbrev pub const_order : Const → Const → Option Ordering
const_order (const.Str s) (const.Str t) = Some (text_cmp s t)
const_order a b = numbers_order (number_of (value_of a)) (number_of (value_of b))

abbrev pub order_folded : Op → Const → Const → Option Const
order_folded o a b = option_map (λ c. const.Bool (holds o c)) (const_order a b)

abbrev pub pair_folded : Op → Const → Const → Option Const
pair_folded o a b = given (number_pair o [] (value_of a) (value_of b))

abbrev pub two_folded : Op → Const → Const → Option Const
two_folded op.Eq a b = Some (const.Bool (const_eq a b))
two_folded op.Ne a b = Some (const.Bool (not (const_eq a b)))
two_folded op.Is a b = Some (const.Bool (identical (value_of a) (value_of b)))
two_folded op.IsNot a b = Some (const.Bool (not (identical (value_of a) (value_of b))))
two_folded op.Lt a b = order_folded op.Lt a b
two_folded op.Le a b = order_folded op.Le a b
two_folded op.Gt a b = order_folded op.Gt a b
two_folded op.Ge a b = order_folded op.Ge a b
two_folded op.Add a b = pair_folded op.Add a b
two_folded op.Sub a b = pair_folded op.Sub a b
two_folded op.Mul a b = pair_folded op.Mul a b
two_folded op.FloorDiv a b = pair_folded op.FloorDiv a b
two_folded op.Mod a b = pair_folded op.Mod a b
two_folded op.LShift a b = pair_folded op.LShift a b
two_folded op.RShift a b = pair_folded op.RShift a b
two_folded op.And a b = pair_folded op.And a b
two_folded op.Or a b = pair_folded op.Or a b
two_folded op.Xor a b = pair_folded op.Xor a b
two_folded op.IAdd a b = pair_folded op.IAdd a b
two_folded op.IMul a b = pair_folded op.IMul a b
two_folded other a b = None

abbrev pub one_folded : Op → Const → Option Const
one_folded op.Neg a = given (number_one op.Neg [] (value_of a))
one_folded op.Pos a = given (number_one op.Pos [] (value_of a))
one_folded op.Inv a = given (number_one op.Inv [] (value_of a))
one_folded op.Not a = given (not_row (value_of a))
one_folded op.Truth a = given (truth_row [] (value_of a))
one_folded other a = None

abbrev pub folded_by : Op → List Const → Option Const
folded_by o [] = None
folded_by o (a ∷ []) = one_folded o a
folded_by o (a ∷ b ∷ []) = two_folded o a b
folded_by o (a ∷ b ∷ c ∷ more) = None
