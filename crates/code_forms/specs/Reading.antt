-- What operands and arguments hold, by what temporaries hold, of which some have no value.
use Rattle.std.specs.Prelude.{ℕ, List, [], ◌∷◌, Option, Some, None}
use Rattle.nu_value.specs.declared.value.Value.{Value}
use Rattle.nu_value.specs.declared.value.Value.TheVariants as value
use Rattle.op_forms.specs.Constants.{value_of}
use Rattle.code_forms.specs.declared.operand.Argument.{Argument}
use Rattle.code_forms.specs.declared.operand.Argument.TheVariants as argument
use Rattle.code_forms.specs.declared.operand.Operand.{Operand}
use Rattle.code_forms.specs.declared.operand.Operand.TheVariants as operand

-- what an operand holds, Unset too
abbrev pub operand_value : (ℕ → Option Value) → Operand → Option Value
operand_value temps (operand.Temp t) = temps t
operand_value temps (operand.Const c) = Some (value_of c)

-- a bare name is its text
abbrev pub argument_value : (ℕ → Option Value) → Argument → Option Value
argument_value temps (argument.Value a) = operand_value temps a
argument_value temps (argument.Name name) = Some (value.Str name)

abbrev pub both : Option Value → Option (List Value) → Option (List Value)
both None vs = None
both (Some v) None = None
both (Some v) (Some vs) = Some (v ∷ vs)

-- the arguments of an operation, if all have a value
abbrev pub argument_values : (ℕ → Option Value) → List Argument → Option (List Value)
argument_values temps [] = Some []
argument_values temps (a ∷ args) = both (argument_value temps a) (argument_values temps args)
