-- The rows on tuples, lists, ranges and iterators (library reference, "Sequence Types").
use Rattle.std.specs.Prelude.{ℕ, List, [], ◌∷◌, codes, if◌then◌else◌, slice_get}
use Rattle.std.specs.Str.{bytes_eq}
use Rattle.nu_value.specs.declared.object.Object.{Object}
use Rattle.nu_value.specs.declared.value.Value.{Value}
use Rattle.nu_value.specs.declared.value.Value.TheVariants as value
use Rattle.nu_value.specs.Names.{NameList}
use Rattle.op_forms.specs.declared.op.Op.{Op}
use Rattle.op_forms.specs.declared.op.Op.TheVariants as op
use Rattle.op_forms.specs.Doing.{Doing, nothing, ends}
use Rattle.op_forms.specs.Signs.{sign_of}
use Rattle.op_rules.specs.AskedValues.{asks_two, asks_three}
use Rattle.op_rules.specs.Items.{tuple_row, list_row, push_row, index_row, setindex_row, delindex_row, len_row}
use Rattle.op_rules.specs.Iteration.{iter_row, next_row}
use Rattle.op_rules.specs.Kinds.{no_operand, no_operands}
use Rattle.op_rules.specs.Order.{order_native}
use Rattle.op_rules.specs.Ordering.{order_row}
use Rattle.op_rules.specs.SequenceMethods.{without_keywords, method_on}
use Rattle.op_rules.specs.SequenceOperators.{add_row, iadd_row, mul_row, imul_row, mod_row, in_row}
use Rattle.op_rules.specs.Slices.{slice_row}

abbrev pub sequence_pair : Op → List Object → Value → Value → Doing
sequence_pair op.Add h a b = add_row op.Add h a b
sequence_pair op.IAdd h a b = iadd_row h a b
sequence_pair op.Mul h a b = mul_row op.Mul h a b
sequence_pair op.IMul h a b = imul_row h a b
sequence_pair op.Mod h a b = mod_row h a b
sequence_pair o h a b = ends (no_operands (sign_of o) h a b)

abbrev pub on_one : (Value → Doing) → List Value → Doing
on_one f (a ∷ []) = f a
on_one f args = nothing

abbrev pub on_two : (Value → Value → Doing) → List Value → Doing
on_two f (a ∷ b ∷ []) = f a b
on_two f args = nothing

abbrev pub on_three : (Value → Value → Value → Doing) → List Value → Doing
on_three f (a ∷ b ∷ c ∷ []) = f a b c
on_three f args = nothing

abbrev pub on_four : (Value → Value → Value → Value → Doing) → List Value → Doing
on_four f (a ∷ b ∷ c ∷ d ∷ []) = f a b c d
on_four f args = nothing

-- the functions of the built-in text for what takes items of any value
abbrev pub extend_row : List Object → Value → Value → Doing
extend_row h l x = ends (asks_two h (codes "_nu_extend") l x)

abbrev pub unpack_row : List Object → Value → Value → Doing
unpack_row h x n = ends (asks_two h (codes "_nu_unpack") x n)

abbrev pub unpackstar_row : List Object → Value → Value → Value → Doing
unpackstar_row h x a b = ends (asks_three h (codes "_nu_unpackstar") x a b)

abbrev pub making_row : Op → List Object → List Value → Doing
making_row op.Tuple h args = tuple_row h args
making_row op.List h args = list_row h args
making_row op.Push h args = on_two (push_row h) args
making_row op.Extend h args = on_two (extend_row h) args
making_row op.Unpack h args = on_two (unpack_row h) args
making_row op.UnpackStar h args = on_three (unpackstar_row h) args
making_row o h args = nothing

abbrev pub accessing_row : Op → List Object → List Value → Doing
accessing_row op.Index h args = on_two (λ x i. ends (index_row h x i)) args
accessing_row op.SetIndex h args = on_three (setindex_row h) args
accessing_row op.DelIndex h args = on_two (delindex_row h) args
accessing_row op.Slice h args = on_four (slice_row h) args
accessing_row op.Iter h args = on_one (iter_row h) args
accessing_row op.Next h args = on_one (next_row h) args
accessing_row op.In h args = on_two (λ v c. ends (in_row h v c)) args
accessing_row o h args = nothing

abbrev pub operators_row : Op → List Object → List Value → Doing
operators_row o h args = on_two (sequence_pair o h) args

abbrev pub comparing_row : Op → List Object → List Value → Doing
comparing_row o h args = on_two (λ a b. ends (order_row o h a b)) args

abbrev pub signing_row : Op → List Object → List Value → Doing
signing_row o h args = on_one (λ a. ends (no_operand (sign_of o) h a)) args

abbrev pub sequence_row : Op → List Object → List Value → Doing
sequence_row op.Tuple h args = making_row op.Tuple h args
sequence_row op.List h args = making_row op.List h args
sequence_row op.Push h args = making_row op.Push h args
sequence_row op.Extend h args = making_row op.Extend h args
sequence_row op.Unpack h args = making_row op.Unpack h args
sequence_row op.UnpackStar h args = making_row op.UnpackStar h args
sequence_row op.Index h args = accessing_row op.Index h args
sequence_row op.SetIndex h args = accessing_row op.SetIndex h args
sequence_row op.DelIndex h args = accessing_row op.DelIndex h args
sequence_row op.Slice h args = accessing_row op.Slice h args
sequence_row op.Iter h args = accessing_row op.Iter h args
sequence_row op.Next h args = accessing_row op.Next h args
sequence_row op.In h args = accessing_row op.In h args
sequence_row op.Add h args = operators_row op.Add h args
sequence_row op.Sub h args = operators_row op.Sub h args
sequence_row op.Mul h args = operators_row op.Mul h args
sequence_row op.FloorDiv h args = operators_row op.FloorDiv h args
sequence_row op.Mod h args = operators_row op.Mod h args
sequence_row op.Pow h args = operators_row op.Pow h args
sequence_row op.LShift h args = operators_row op.LShift h args
sequence_row op.RShift h args = operators_row op.RShift h args
sequence_row op.And h args = operators_row op.And h args
sequence_row op.Or h args = operators_row op.Or h args
sequence_row op.Xor h args = operators_row op.Xor h args
sequence_row op.IAdd h args = operators_row op.IAdd h args
sequence_row op.IMul h args = operators_row op.IMul h args
sequence_row op.Lt h args = comparing_row op.Lt h args
sequence_row op.Le h args = comparing_row op.Le h args
sequence_row op.Gt h args = comparing_row op.Gt h args
sequence_row op.Ge h args = comparing_row op.Ge h args
sequence_row op.Neg h args = signing_row op.Neg h args
sequence_row op.Pos h args = signing_row op.Pos h args
sequence_row op.Inv h args = signing_row op.Inv h args
sequence_row other h args = nothing

-- ---- calls

-- the natives that sequences answer
abbrev pub native_of_one : List ℕ → List Object → Value → Doing
native_of_one name h x = if bytes_eq name (codes "len") then ends (len_row h x) else nothing

abbrev pub native_of_two : List ℕ → List Object → Value → Value → Doing
native_of_two name h l r = if bytes_eq name (codes "_nu_order") then order_native h l r else nothing

abbrev pub plain_native : List ℕ → List Object → List Value → Doing
plain_native name h (x ∷ []) = native_of_one name h x
plain_native name h (l ∷ r ∷ []) = native_of_two name h l r
plain_native name h args = nothing

-- a built-in of this name, with its receiver or none, is called with arguments and keywords
abbrev pub sequence_call : List Object → List ℕ → Value → List Value → NameList → Doing
sequence_call h name value.Unset args names = without_keywords names (plain_native name h args)
sequence_call h name (value.Obj n) args names = method_on name h n args names (slice_get h n)
sequence_call h name receiver args names = nothing
