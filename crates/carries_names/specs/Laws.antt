-- What blocks carry of names, of codes and of functions.
use Rattle.std.specs.Prelude.{◌≡◌, ℕ, Bool, ◌+◌, ◌≤◌, List, Option, Some, None, slice_get}
use Rattle.nu_value.specs.declared.value.Value.{Value}
use Rattle.code_forms.specs.declared.operand.Operand.{Operand}
use Rattle.code_forms.specs.declared.operand.Operand.TheVariants as operand
use Rattle.node_tree.specs.declared.script.NodeCode.{NodeCode}
use Rattle.node_tree.specs.Blocks.{alone}
use Rattle.node_tree.specs.Blocks as tree
use Rattle.node_tree.specs.Tree.{code_block}
use Rattle.py_meaning.specs.Syntax as syntax
use Rattle.carries_base.specs.Frames.{Homes, HaveRoom, behind}
use Rattle.carries_base.specs.Carries.{Setting, source, target, BegunAs, Carrier, CarriesExpression, CarriesTarget, CarriesStatement, CarriesBlock, CarriesAll, CarriesCode}
use Rattle.carries_names.specs.Names.{HasPlace, reads, stores, unbinds, CarriesDeletion, CarriesDeletions}
use Rattle.carries_names.specs.Begun.{begun_block, AreWhole, CarriesBody, HaveHomes}
use Rattle.carries_names.specs.Functions.{HasCells, CarriesNamed, put_end, function_block}

-- names at every home
pub record CarriesNames : Type 0 where
  pub read : (h : Homes) (low to line : ℕ) (home : syntax.Home) → HaveRoom h → HasPlace h home → behind h ≤ low → low ≤ to → CarriesExpression h low (to + 1) (syntax.Name line home) (alone (reads h to line home)) (operand.Temp to)
  pub store : (h : Homes) (low to line : ℕ) (home : syntax.Home) (o : Operand) → HaveRoom h → HasPlace h home → behind h ≤ low → low ≤ to → CarriesTarget h low (to + 1) o (syntax.ToName line home) (alone (stores h to line home o))
  pub delete : (h : Homes) (low to line : ℕ) (home : syntax.Home) → HaveRoom h → HasPlace h home → behind h ≤ low → low ≤ to → CarriesDeletion h low (to + 1) (syntax.ToName line home) (unbinds h to line home)
  -- several targets are deleted from left to right
  pub none : (h : Homes) (low : ℕ) → behind h ≤ low → CarriesDeletions h low low syntax.NoTarget tree.Stop
  pub also : (h : Homes) (low mid high : ℕ) (x : syntax.Target) (xs : syntax.Targets) (a b : tree.Block) → CarriesDeletion h low mid x a → CarriesDeletions h mid high xs b → CarriesDeletions h low high (syntax.AlsoTo x xs) (tree.append a b)
  pub each : (h : Homes) (low high line : ℕ) (xs : syntax.Targets) (b : tree.Block) → CarriesDeletions h low high xs b → CarriesDeletion h low high (syntax.ToEach line xs) b
  pub deleted : (h : Homes) (low high : ℕ) (caught : Option ℕ) (x : syntax.Target) (b : tree.Block) → CarriesDeletion h low high x b → CarriesStatement h low high caught (syntax.Delete x) b

-- codes with cells and with local variables, whose bodies are statements or one value
pub record CarriesCodes : Type 0 where
  pub statements : (z : Setting) (h : Homes) (low high : ℕ) (body : syntax.Block) (b : tree.Block) → CarriesBlock h low high None body b → CarriesBody z h (syntax.Statements body) b
  pub value : (z : Setting) (h : Homes) (low high : ℕ) (x : syntax.Expression) (b : tree.Block) (o : Operand) → CarriesExpression h low high x b o → CarriesBody z h (syntax.Value' x) (tree.append b (alone (tree.Return o)))
  -- a code is carried where its body is
  pub begun : (z : Setting) (code t more : ℕ) (c : syntax.Code) (b : tree.Block) → slice_get z.codes code ≡ Some c → HaveRoom (z.homes code) → AreWhole (z.homes code) more c.owns → behind (z.homes code) ≤ t → code_block z.script.codes code ≡ begun_block (z.homes code) c.header.line t more c.owns b → CarriesBody z (z.homes code) c.body b → CarriesCode z code
  -- codes of any parameters, local variables and cells of enclosing functions begin in both alike
  pub begins : (z : Setting) (code : ℕ) (c : syntax.Code) (k : NodeCode) → slice_get z.codes code ≡ Some c → slice_get z.script.codes code ≡ Some k → HaveRoom (z.homes code) → HaveHomes (z.homes code) c k → (kind : Bool) (given cells : List Value) → BegunAs (z.homes code) ((source z).frame kind code given cells) ((target z).frame kind code given cells)

-- functions with defaults
abbrev pub CarriesFunctions : Type 0
CarriesFunctions = (h : Homes) (low mid high line code : ℕ) (defaults : syntax.Expressions) (keywords : syntax.Keywords) (cells : List syntax.CellPlace) (ps ks : List Carrier) → HaveRoom h → HasCells h cells → CarriesAll h low mid defaults ps → CarriesNamed h mid high keywords ks → CarriesExpression h low (put_end (high + 2) keywords + 1) (syntax.Function line code defaults keywords cells) (function_block h high line code ps keywords ks cells) (operand.Temp (put_end (high + 2) keywords))
