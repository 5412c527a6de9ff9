-- Operations that are done at once.
use Rattle.std.specs.Prelude.{List, Option, Some, None}
use Rattle.nu_value.specs.declared.value.Value.{Value}
use Rattle.nu_value.specs.declared.value.Value.TheVariants as value
use Rattle.op_forms.specs.declared.op.Op.{Op}
use Rattle.op_forms.specs.declared.world.World.{World}
use Rattle.op_forms.specs.Constants.{value_of}
use Rattle.runtime_table.specs.Quick.{IsQuick, Leads}
use Rattle.code_forms.specs.declared.operand.Operand.{Operand}
use Rattle.code_forms.specs.declared.operand.Operand.TheVariants as operand

-- all arguments have values that fit, and the table gives a value and changes nothing
abbrev pub Gives : Op → World → Option (List Value) → Value → Type 0
Gives o w None v = ⊥
Gives o w (Some args) v = IsQuick o w args v

-- the table gives a value and leads to this world
abbrev pub LeadsTo : Op → World → Option (List Value) → Value → World → Type 0
LeadsTo o w None v w' = ⊥
LeadsTo o w (Some args) v w' = Leads o w args v w'

-- what a constant holds; Unset for a register
abbrev pub constant_of : Operand → Value
constant_of (operand.Temp t) = value.Unset
constant_of (operand.Const c) = value_of c
