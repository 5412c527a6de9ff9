-- What blocks of assignments carry.
use Rattle.std.specs.Prelude.{ℕ, ◌≤◌, Option}
use Rattle.code_forms.specs.declared.operand.Operand.{Operand}
use Rattle.node_tree.specs.Blocks as tree
use Rattle.py_meaning.specs.Syntax as syntax
use Rattle.py_meaning.specs.Statements.{assign_all}
use Rattle.carries_base.specs.Frames.{Homes, behind}
use Rattle.carries_base.specs.Carries.{CarriesGiven, CarriesExpression, CarriesTarget, CarriesStatement}

-- the value that an operand holds goes to all these targets
abbrev pub CarriesTargets : Homes → ℕ → ℕ → Operand → syntax.Targets → tree.Block → Type 0
CarriesTargets h low high o ts b = CarriesGiven h low high o (λ l v. assign_all l v ts) b

pub record CarriesAssignments : Type 0 where
  pub done : (h : Homes) (low : ℕ) (o : Operand) → behind h ≤ low → CarriesTargets h low low o syntax.NoTarget tree.Stop
  -- from left to right
  pub also : (h : Homes) (low mid high : ℕ) (o : Operand) (t : syntax.Target) (ts : syntax.Targets) (a b : tree.Block) → CarriesTarget h low mid o t a → CarriesTargets h mid high o ts b → CarriesTargets h low high o (syntax.AlsoTo t ts) (tree.append a b)
  -- the right side first
  pub assign : (h : Homes) (low mid high : ℕ) (caught : Option ℕ) (x : syntax.Expression) (ts : syntax.Targets) (a b : tree.Block) (o : Operand) → CarriesExpression h low mid x a o → CarriesTargets h mid high o ts b → CarriesStatement h low high caught (syntax.Assign ts x) (tree.append a b)
