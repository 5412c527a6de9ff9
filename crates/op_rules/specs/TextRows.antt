-- The rows on texts (library reference, "Common Sequence Operations" and "Text Sequence Type").
use Rattle.std.specs.Prelude.{ℕ, zero, suc, ◌+◌, ◌*◌, ℤ, pos, negsuc, List, [], ◌++◌, Option, Some, None, if◌then◌else◌, nat_le}
use Rattle.nu_run.specs.declared.StopKind.TheVariants as stop
use Rattle.nu_text.specs.Characters.{characters}
use Rattle.nu_value.specs.declared.value.Value.{Value}
use Rattle.nu_value.specs.declared.value.Value.TheVariants as value
use Rattle.nu_value.specs.declared.object.Object.{Object}
use Rattle.nu_value.specs.Same.{number_of}
use Rattle.op_forms.specs.declared.end.OpEnd.{OpEnd}
use Rattle.op_forms.specs.declared.end.OpEnd.TheVariants as opend
use Rattle.op_forms.specs.declared.op.Op.{Op}
use Rattle.op_forms.specs.declared.op.Op.TheVariants as op
use Rattle.op_rules.specs.Kinds.{no_operand, no_operands, no_order}
use Rattle.op_forms.specs.Signs.{sign_of}
use Rattle.op_rules.specs.Comparisons.{give_bool, holds, text_cmp}
use Rattle.op_rules.specs.IntRows.{of_one, of_two}

-- the most items of a text, list or tuple
abbrev pub size_limit : ℕ
size_limit = 16777216

abbrev pub sized : ℕ → OpEnd → OpEnd
sized items e = if nat_le items size_limit then e else opend.Stop stop.Size

abbrev pub copies : ℕ → List ℕ → List ℕ
copies zero text = []
copies (suc n) text = text ++ copies n text

-- a negative number of copies is none
abbrev pub copy_count : ℤ → ℕ
copy_count (pos n) = n
copy_count (negsuc n) = 0

abbrev pub repeated : List ℕ → ℕ → OpEnd
repeated text n = sized (characters text * n) (opend.Give (value.Str (copies n text)))

abbrev pub repeated_by : List ℕ → OpEnd → Option ℤ → OpEnd
repeated_by text other None = other
repeated_by text other (Some z) = repeated text (copy_count z)

abbrev pub text_add : OpEnd → Value → Value → OpEnd
text_add other (value.Str s) (value.Str t) = sized (characters s + characters t) (opend.Give (value.Str (s ++ t)))
text_add other a b = other

abbrev pub text_mul : OpEnd → Value → Value → OpEnd
text_mul other (value.Str s) b = repeated_by s other (number_of b)
text_mul other a (value.Str t) = repeated_by t other (number_of a)
text_mul other a b = other

-- `%` with a text on the left formats it, which is left out
abbrev pub text_mod : OpEnd → Value → OpEnd
text_mod other (value.Str s) = opend.Stop stop.Unbuilt
text_mod other a = other

abbrev pub text_pair : Op → OpEnd → Value → Value → OpEnd
text_pair op.Add other a b = text_add other a b
text_pair op.IAdd other a b = text_add other a b
text_pair op.Mul other a b = text_mul other a b
text_pair op.IMul other a b = text_mul other a b
text_pair op.Mod other a b = text_mod other a
text_pair o other a b = other

abbrev pub text_operation : Op → List Object → Value → Value → OpEnd
text_operation o h a b = text_pair o (no_operands (sign_of o) h a b) a b

abbrev pub on_texts : (List ℕ → List ℕ → OpEnd) → OpEnd → Value → Value → OpEnd
on_texts f other (value.Str s) (value.Str t) = f s t
on_texts f other a b = other

abbrev pub text_order : Op → List Object → Value → Value → OpEnd
text_order o h a b = on_texts (λ s t. give_bool (holds o (text_cmp s t))) (no_order (sign_of o) h a b) a b

abbrev pub text_row : Op → List Object → List Value → OpEnd
text_row op.Add h args = of_two (text_operation op.Add h) args
text_row op.Sub h args = of_two (text_operation op.Sub h) args
text_row op.Mul h args = of_two (text_operation op.Mul h) args
text_row op.FloorDiv h args = of_two (text_operation op.FloorDiv h) args
text_row op.Mod h args = of_two (text_operation op.Mod h) args
text_row op.Pow h args = of_two (text_operation op.Pow h) args
text_row op.LShift h args = of_two (text_operation op.LShift h) args
text_row op.RShift h args = of_two (text_operation op.RShift h) args
text_row op.And h args = of_two (text_operation op.And h) args
text_row op.Or h args = of_two (text_operation op.Or h) args
text_row op.Xor h args = of_two (text_operation op.Xor h) args
text_row op.IAdd h args = of_two (text_operation op.IAdd h) args
text_row op.IMul h args = of_two (text_operation op.IMul h) args
text_row op.Lt h args = of_two (text_order op.Lt h) args
text_row op.Le h args = of_two (text_order op.Le h) args
text_row op.Gt h args = of_two (text_order op.Gt h) args
text_row op.Ge h args = of_two (text_order op.Ge h) args
text_row op.Neg h args = of_one (no_operand (sign_of op.Neg) h) args
text_row op.Pos h args = of_one (no_operand (sign_of op.Pos) h) args
text_row op.Inv h args = of_one (no_operand (sign_of op.Inv) h) args
text_row other h args = opend.Stop stop.Unbuilt
