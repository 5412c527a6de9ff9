-- The statement of an operation: a text constant where the operation takes a name is that name, and a call has a statement of its own.
use Rattle.std.specs.Prelude.{ℕ, List, [], ◌∷◌, Bool, true, false, if◌then◌else◌}
use Rattle.op_forms.specs.declared.constant.Const.TheVariants as const
use Rattle.op_forms.specs.declared.op.Op.{Op}
use Rattle.op_forms.specs.declared.op.Op.TheVariants as op
use Rattle.op_forms.specs.declared.signature.ArgumentKind.{ArgumentKind}
use Rattle.op_forms.specs.declared.signature.ArgumentKind.TheVariants as kind
use Rattle.op_forms.specs.Signature as signature
use Rattle.code_forms.specs.declared.operand.Argument.{Argument}
use Rattle.code_forms.specs.declared.operand.Argument.TheVariants as argument
use Rattle.code_forms.specs.declared.operand.Operand.{Operand}
use Rattle.code_forms.specs.declared.operand.Operand.TheVariants as operand
use Rattle.node_tree.specs.Blocks as tree

abbrev pub is_name : ArgumentKind → Bool
is_name kind.Name = true
is_name kind.BuiltinName = true
is_name other = false

abbrev pub argument_of : Bool → Operand → Argument
argument_of true (operand.Const (const.Str name)) = argument.Name name
argument_of named value = argument.Value value

-- by the kinds of the first places
abbrev pub given : List ArgumentKind → List Operand → List Argument
given kinds [] = []
given [] (o ∷ os) = argument.Value o ∷ given [] os
given (k ∷ kinds) (o ∷ os) = argument_of (is_name k) o ∷ given kinds os

abbrev pub is_call : Op → Bool
is_call op.Call = true
is_call other = false

abbrev pub called : ℕ → ℕ → List Operand → tree.Form
called t line [] = tree.Do t line op.Call []
called t line (f ∷ os) = tree.Call t line f os

-- what operands hold goes to an operation, whose value goes to the temporary t
abbrev pub does : ℕ → ℕ → Op → List Operand → tree.Form
does t line o os = if is_call o then called t line os else tree.Do t line o (given (signature.arguments o) os)
