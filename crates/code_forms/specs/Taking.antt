-- Which arguments an operation takes.
use Rattle.std.specs.Prelude.{Bool, true, false, ◌&&◌, List, [], ◌∷◌, Option, Some, None}
use Rattle.nu_text.specs.Names.{is_among, built_in_names}
use Rattle.op_forms.specs.declared.op.Op.{Op}
use Rattle.op_forms.specs.declared.signature.ArgumentKind.{ArgumentKind}
use Rattle.op_forms.specs.declared.signature.ArgumentKind.TheVariants as kind
use Rattle.op_forms.specs.Signature.{arguments, further}
use Rattle.code_forms.specs.declared.operand.Argument.{Argument}
use Rattle.code_forms.specs.declared.operand.Argument.TheVariants as argument

-- whether an argument is of the kind that an operation takes at its place: a name, or a value
abbrev pub takes : ArgumentKind → Argument → Bool
takes kind.Name (argument.Name name) = true
takes kind.Name (argument.Value a) = false
takes kind.BuiltinName (argument.Name name) = is_among built_in_names name
takes kind.BuiltinName (argument.Value a) = false
takes other (argument.Value a) = true
takes other (argument.Name name) = false

-- whether arguments are those that an operation takes at its first places and at further ones
abbrev pub all_taken : List ArgumentKind → Option ArgumentKind → List Argument → Bool
all_taken (k ∷ kinds) more (a ∷ more_arguments) = takes k a && all_taken kinds more more_arguments
all_taken (k ∷ kinds) more [] = false
all_taken [] more [] = true
all_taken [] None (a ∷ more_arguments) = false
all_taken [] (Some k) (a ∷ more_arguments) = takes k a && all_taken [] (Some k) more_arguments

abbrev pub is_taken : Op → List Argument → Bool
is_taken o args = all_taken (arguments o) (further o) args
