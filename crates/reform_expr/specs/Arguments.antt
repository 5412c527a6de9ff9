-- What an operation is given: a text constant where the operation takes a name is that name.
use Rattle.std.specs.Prelude.{List, [], ◌∷◌, Bool, true, false, Option, Some}
use Rattle.op_forms.specs.declared.constant.Const.TheVariants as const
use Rattle.op_forms.specs.declared.op.Op.{Op}
use Rattle.op_forms.specs.declared.signature.ArgumentKind.{ArgumentKind}
use Rattle.op_forms.specs.declared.signature.ArgumentKind.TheVariants as kind
use Rattle.op_forms.specs.Signature as signature
use Rattle.code_forms.specs.declared.operand.Argument.{Argument}
use Rattle.code_forms.specs.declared.operand.Argument.TheVariants as argument
use Rattle.code_forms.specs.declared.operand.Operand.{Operand}
use Rattle.code_forms.specs.declared.operand.Operand.TheVariants as operand
use Rattle.reform_base.specs.declared.Part.{Part}

abbrev pub is_name : Option ArgumentKind → Bool
is_name (Some kind.Name) = true
is_name (Some kind.BuiltinName) = true
is_name other = false

abbrev pub argument_of : Bool → Operand → Argument
argument_of true (operand.Const (const.Str name)) = argument.Name name
argument_of named value = argument.Value value

-- by the kinds of the first places
abbrev pub given : List ArgumentKind → List Part → List Argument
given kinds [] = []
given [] (p ∷ ps) = argument.Value p.value ∷ given [] ps
given (k ∷ kinds) (p ∷ ps) = argument_of (is_name (Some k)) p.value ∷ given kinds ps

abbrev pub arguments : Op → List Part → List Argument
arguments o ps = given (signature.arguments o) ps
