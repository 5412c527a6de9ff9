-- What is assigned to, as the meaning of scripts has it, and the statements that read it and store to it.
use Rattle.std.specs.Prelude.{ℕ, [], ◌∷◌}
use Rattle.op_forms.specs.declared.op.Op.TheVariants as op
use Rattle.code_forms.specs.declared.operand.Argument.TheVariants as argument
use Rattle.code_forms.specs.declared.operand.Operand.{Operand}
use Rattle.node_tree.specs.Blocks as tree
use Rattle.py_meaning.specs.Syntax as syntax
use Rattle.reform_expr.specs.declared.home.Home.{Home}
use Rattle.reform_expr.specs.declared.home.Home.TheVariants as home
use Rattle.reform_expr.specs.Homes as homes
use Rattle.reform_unpack.specs.declared.place.Place.{Place}
use Rattle.reform_unpack.specs.declared.place.Place.TheVariants as place

abbrev pub line_of : Place → ℕ
line_of (place.Name at line) = line

abbrev pub home_in : Place → Home
home_in (place.Name at line) = at

abbrev pub target_of : Place → syntax.Target
target_of (place.Name at line) = syntax.ToName line (homes.home_of at)

-- the same, read
abbrev pub value_of : Place → syntax.Expression
value_of (place.Name at line) = syntax.Name line (homes.home_of at)

abbrev pub reads : ℕ → Place → tree.Form
reads to (place.Name at line) = homes.reads to line at

abbrev pub stores : ℕ → Operand → Place → tree.Form
stores to value (place.Name (home.Module name) line) = tree.Do to line op.SetGlobal (argument.Name name ∷ argument.Value value ∷ [])
