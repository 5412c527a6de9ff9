-- What blocks carry of expressions whose parts aren't all evaluated, and of those that collect their parts.
use Rattle.std.specs.Prelude.{ℕ, ◌+◌, ◌≤◌, List, Bool, true, false}
use Rattle.code_forms.specs.declared.operand.Operand.TheVariants as operand
use Rattle.node_tree.specs.Blocks as tree
use Rattle.py_meaning.specs.Syntax as syntax
use Rattle.carries_base.specs.Frames.{Homes, behind}
use Rattle.carries_base.specs.Carries.{Carrier, CarriesExpression}
use Rattle.carries_values.specs.Parts.{CarriesPart}
use Rattle.carries_values.specs.Choices.{Linked, junction_block, conditional_block, comparison_block, CarriesLinks}
use Rattle.carries_values.specs.Displays.{Item, Entry, list_block, tuple_block, dict_block, CarriesDisplayed, CarriesEntries}
use Rattle.carries_values.specs.Calls.{Passed, call_block, CarriesArguments}

-- the parts may write any temporaries in front of those that are drawn for the whole, apart or not, but for what is kept over them
pub record CarriesChoices : Type 0 where
  pub junction : (h : Homes) (low high line : ℕ) (any : Bool) (x y : syntax.Expression) (p q : Carrier) → behind h ≤ low → CarriesPart h low high x p → CarriesPart h low high y q → CarriesExpression h low (high + 2) (syntax.Junction line any x y) (junction_block line high any p q) (operand.Temp (high + 1))
  pub conditional : (h : Homes) (low high line : ℕ) (test x y : syntax.Expression) (o p q : Carrier) → behind h ≤ low → CarriesPart h low high test o → CarriesPart h low high x p → CarriesPart h low high y q → CarriesExpression h low (high + 2) (syntax.Conditional line test x y) (conditional_block line high o p q) (operand.Temp (high + 1))
  pub comparison : (h : Homes) (low high line : ℕ) (x : syntax.Expression) (links : syntax.Links) (p : Carrier) (ps : List Linked) → behind h ≤ low → CarriesPart h low high x p → CarriesLinks h low high p.value links ps → CarriesExpression h low (high + 2) (syntax.Comparison line x links) (comparison_block line high p ps) (operand.Temp high)

pub record CarriesDisplays : Type 0 where
  -- with a star; displays without one are operations
  pub list : (h : Homes) (low high line : ℕ) (items : syntax.Items) (ps : List Item) → behind h ≤ low → low ≤ high → CarriesDisplayed h low high items ps → CarriesExpression h low (high + 2) (syntax.Starred line false items) (list_block line high ps) (operand.Temp high)
  pub tuple : (h : Homes) (low high line : ℕ) (items : syntax.Items) (ps : List Item) → behind h ≤ low → low ≤ high → CarriesDisplayed h low high items ps → CarriesExpression h low (high + 3) (syntax.Starred line true items) (tree.append (list_block line high ps) (tuple_block line high)) (operand.Temp (high + 2))
  pub dict : (h : Homes) (low high line : ℕ) (entries : syntax.Entries) (ps : List Entry) → behind h ≤ low → low ≤ high → CarriesEntries h low high entries ps → CarriesExpression h low (high + 2) (syntax.Dict line entries) (dict_block line high ps) (operand.Temp high)

-- a call with stars or keywords; one without them is an operation
abbrev pub CarriesCalls : Type 0
CarriesCalls = (h : Homes) (low high line : ℕ) (f : syntax.Expression) (arguments : syntax.Arguments) (p : Carrier) (ps : List Passed) → behind h ≤ low → CarriesPart h low high f p → CarriesArguments h low high p.value arguments ps → CarriesExpression h low (high + 4) (syntax.Call line f arguments) (call_block line high p ps) (operand.Temp (high + 3))
