-- The homes of names, as the meaning of scripts has them.
use Rattle.std.specs.Prelude.{ℕ}
use Rattle.code_forms.specs.declared.operand.Argument.TheVariants as argument
use Rattle.node_tree.specs.Blocks as tree
use Rattle.op_forms.specs.declared.op.Op.TheVariants as op
use Rattle.py_meaning.specs.Syntax as syntax
use Rattle.reform_expr.specs.declared.home.Home.{Home}
use Rattle.reform_expr.specs.declared.home.Home.TheVariants as home
use Rattle.std.specs.Prelude.{[], ◌∷◌}

abbrev pub home_of : Home → syntax.Home
home_of (home.Module name) = syntax.Module name

-- the statement that reads a name
abbrev pub reads : ℕ → ℕ → Home → tree.Form
reads to line (home.Module name) = tree.Do to line op.Global (argument.Name name ∷ [])
