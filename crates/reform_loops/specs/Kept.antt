-- What stands in the blocks of branches and loops beside what stood in their parts.
use Rattle.std.specs.Prelude.{ℕ, ◌+◌, List, [], ◌∷◌, Bool, true, false, if◌then◌else◌}
use Rattle.op_forms.specs.declared.constant.Const.{Const}
use Rattle.op_forms.specs.declared.constant.Const.TheVariants as const
use Rattle.op_forms.specs.declared.op.Op.{Op}
use Rattle.op_forms.specs.declared.op.Op.TheVariants as op
use Rattle.code_forms.specs.declared.operand.Argument.{Argument}
use Rattle.code_forms.specs.declared.operand.Argument.TheVariants as argument
use Rattle.code_forms.specs.declared.operand.Operand.{Operand}

-- the operation that asks an operand for its truth, where a test lets it count
abbrev pub asks : (Op → List Argument → Bool) → Operand → ℕ
asks counts o = if counts op.Truth (argument.Value o ∷ []) then 1 else 0

-- the two truth values, each once
abbrev pub flags : (Const → Bool) → ℕ
flags counts = (if counts (const.Bool true) then 1 else 0) + (if counts (const.Bool false) then 1 else 0)
