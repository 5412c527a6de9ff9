-- The signs of operations.
use Rattle.std.specs.Prelude.{ℕ, List, codes}
use Rattle.op_forms.specs.declared.op.Op.{Op}
use Rattle.op_forms.specs.declared.op.Op.TheVariants as op

abbrev pub sign_of : Op → List ℕ
sign_of op.Add = codes "+"
sign_of op.Sub = codes "-"
sign_of op.Mul = codes "*"
sign_of op.FloorDiv = codes "//"
sign_of op.Mod = codes "%"
sign_of op.Pow = codes "**"
sign_of op.LShift = codes "<<"
sign_of op.RShift = codes ">>"
sign_of op.And = codes "&"
sign_of op.Or = codes "|"
sign_of op.Xor = codes "^"
sign_of op.Neg = codes "-"
sign_of op.Pos = codes "+"
sign_of op.Inv = codes "~"
sign_of op.IAdd = codes "+"
sign_of op.IMul = codes "*"
sign_of op.Lt = codes "<"
sign_of op.Le = codes "<="
sign_of op.Gt = codes ">"
sign_of op.Ge = codes ">="
sign_of other = codes ""
