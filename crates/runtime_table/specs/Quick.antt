-- Operations that are done at once, by values that lie elsewhere, without a list of arguments and without memory.
use Rattle.std.specs.Prelude.{◌≡◌, ℤ, pos, List, [], ◌∷◌, Option, Some, None, Bool, true, false, not, slice_get, if◌then◌else◌}
use Rattle.std.specs.Ordering.{int_eq}
use Rattle.nu_value.specs.declared.object.Object.{Object}
use Rattle.nu_value.specs.declared.object.Object.TheVariants as object
use Rattle.nu_value.specs.declared.value.Value.{Value}
use Rattle.nu_value.specs.declared.value.Value.TheVariants as value
use Rattle.nu_value.specs.Same.{is_set}
use Rattle.op_forms.specs.declared.op.Op.{Op}
use Rattle.op_forms.specs.declared.op.Op.TheVariants as op
use Rattle.op_forms.specs.declared.world.World.{World}
use Rattle.op_forms.specs.declared.end.OpEnd.TheVariants as opend
use Rattle.op_forms.specs.Answers.{after}
use Rattle.op_forms.specs.Doing.{given}
use Rattle.op_forms.specs.Fits.{fits}
use Rattle.op_rules.specs.Comparisons.{is_filled}
use Rattle.op_rules.specs.Table.{row}

-- the arguments fit the operation, and its row gives a value and changes nothing
abbrev pub IsQuick : Op → World → List Value → Value → Type 0
IsQuick o w args v = (fits o w args ≡ true) × (row o w args ≡ given w.heap v)

-- they fit it, and its row gives a value and leads to this world
abbrev pub Leads : Op → World → List Value → Value → World → Type 0
Leads o w args v w' = (fits o w args ≡ true) × ((row o w args).end ≡ opend.Give v) × (w' ≡ after w (row o w args))

-- the operations that integers answer
abbrev pub is_number_op : Op → Bool
is_number_op op.Add = true
is_number_op op.Sub = true
is_number_op op.Mul = true
is_number_op op.FloorDiv = true
is_number_op op.Mod = true
is_number_op op.Pow = true
is_number_op op.LShift = true
is_number_op op.RShift = true
is_number_op op.And = true
is_number_op op.Or = true
is_number_op op.Xor = true
is_number_op op.IAdd = true
is_number_op op.IMul = true
is_number_op op.Lt = true
is_number_op op.Le = true
is_number_op op.Gt = true
is_number_op op.Ge = true
is_number_op op.Eq = true
is_number_op op.Ne = true
is_number_op op.Is = true
is_number_op op.IsNot = true
is_number_op other = false

abbrev pub is_sign_op : Op → Bool
is_sign_op op.Neg = true
is_sign_op op.Pos = true
is_sign_op op.Inv = true
is_sign_op other = false

-- whether a container without a class holds anything
abbrev pub object_truth : Option Object → Option Bool
object_truth (Some (object.List items)) = Some (is_filled items)
object_truth (Some (object.Tuple items)) = Some (is_filled items)
object_truth (Some (object.Dict pairs)) = Some (is_filled pairs)
object_truth other = None

-- the truth value of what has no class of a script
abbrev pub plain_truth : List Object → Value → Option Bool
plain_truth h value.Unset = None
plain_truth h value.None = Some false
plain_truth h (value.Bool b) = Some b
plain_truth h (value.Int z) = Some (not (int_eq z (pos 0)))
plain_truth h (value.Str text) = Some (is_filled text)
plain_truth h (value.Obj n) = object_truth (slice_get h n)

-- what a cell holds, if it holds something
abbrev pub held_value : Option Object → Option Value
held_value (Some (object.Cell v)) = if is_set v then Some v else None
held_value other = None

abbrev pub is_instance : Option Object → Bool
is_instance (Some (object.Instance class fields)) = true
is_instance other = false
