-- Parts of expressions, which write temporaries in front of those that are drawn for the whole.
use Rattle.std.specs.Prelude.{ℕ}
use Rattle.code_forms.specs.declared.operand.Operand.{Operand}
use Rattle.node_tree.specs.Blocks.{alone, puts}
use Rattle.node_tree.specs.Blocks as tree
use Rattle.py_meaning.specs.Syntax as syntax
use Rattle.carries_base.specs.Frames.{Homes, IsOff}
use Rattle.carries_base.specs.Carries.{Carrier, CarriesExpression}
use Rattle.carries_base.specs.Laws.{Within}

-- what an operand holds goes to a temporary
abbrev pub moved : ℕ → Operand → tree.Block
moved to o = alone (puts to o)

-- a part, and its value goes to a temporary
abbrev pub into : ℕ → Carrier → tree.Block
into to p = tree.append p.block (moved to p.value)

pub record CarriesPart (h : Homes) (low high : ℕ) (x : syntax.Expression) (p : Carrier) : Type 0 where
  pub from : ℕ
  pub to : ℕ
  pub within : Within low high from to
  pub carries : CarriesExpression h from to x p.block p.value

-- a part over which an operand is kept
abbrev pub CarriesBeside : Homes → ℕ → ℕ → Operand → syntax.Expression → Carrier → Type 0
CarriesBeside h low high o x p = (c : CarriesPart h low high x p) × IsOff h c.from c.to o
