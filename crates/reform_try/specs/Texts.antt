-- The text of an `assert`, if there is one.
use Rattle.std.specs.Prelude.{List, [], ◌∷◌, Option, Some, None}
use Rattle.code_forms.specs.declared.operand.Argument.{Argument}
use Rattle.code_forms.specs.declared.operand.Argument.TheVariants as argument
use Rattle.code_forms.specs.declared.operand.Operand.{Operand}
use Rattle.carries_base.specs.Carries.{Carrier}
use Rattle.reform_base.specs.declared.Part.{Part}
use Rattle.reform_blocks.specs.Parts.{carrier}

abbrev pub texts_of : Option Part → List Carrier
texts_of None = []
texts_of (Some p) = carrier p ∷ []

abbrev pub arguments_of : Option Operand → List Argument
arguments_of None = []
arguments_of (Some o) = argument.Value o ∷ []
