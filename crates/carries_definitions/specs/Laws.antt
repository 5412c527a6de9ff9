-- What blocks carry of definitions, of comprehensions and of `yield from`.
use Rattle.std.specs.Prelude.{◌⊎◌, ℕ, ◌+◌, ◌<◌, ◌≤◌, List, length, Option, Some, None}
use Rattle.op_forms.specs.declared.constant.Const.TheVariants as const
use Rattle.op_forms.specs.declared.op.Op.{Op}
use Rattle.code_forms.specs.declared.operand.Operand.{Operand}
use Rattle.code_forms.specs.declared.operand.Operand.TheVariants as operand
use Rattle.node_tree.specs.Blocks as tree
use Rattle.py_meaning.specs.Syntax as syntax
use Rattle.carries_base.specs.Frames.{Homes, HaveRoom, local_at, behind, IsOff}
use Rattle.carries_base.specs.Carries.{Setting, Carrier, CarriesExpression, CarriesTarget, CarriesStatement}
use Rattle.carries_base.specs.Laws.{Within}
use Rattle.carries_names.specs.Begun.{CarriesBody}
use Rattle.carries_names.specs.Functions.{HasCells}
use Rattle.carries_control.specs.Loops.{for_block}
use Rattle.carries_definitions.specs.Decorated.{CarriesDecorators, decorated_at, definition_block, class_block}
use Rattle.carries_definitions.specs.Collected.{comprehension_block, CarriesTurns, push_block, entry_block, emit_block, filter_block, over_block, gathers_block}
use Rattle.carries_definitions.specs.Delegated.{delegate_block}
use Rattle.carries_definitions.specs.Told.{sent_block, thrown_block}

-- what binds the name may write any temporaries in front of those behind the statement, but for the one that holds what it binds
pub record CarriesDefinitions : Type 0 where
  pub define : (h : Homes) (low mid high sl sh top line : ℕ) (caught : Option ℕ) (ds : List syntax.Decorator) (function : syntax.Expression) (home : syntax.Home) (ps : List Carrier) (fb sb : tree.Block) (o : Operand) → CarriesDecorators h low mid ds ps → CarriesExpression h mid high function fb o → high + length ds ≤ top → Within low top sl sh → IsOff h sl sh (decorated_at high ds o) → CarriesTarget h sl sh (decorated_at high ds o) (syntax.ToName line home) sb → CarriesStatement h low top caught (syntax.Define line ds function home) (tree.append (definition_block high ds ps fb o) sb)
  pub class : (h : Homes) (low mid high sl sh top line code : ℕ) (caught : Option ℕ) (ds : List syntax.Decorator) (name : List ℕ) (base : syntax.Expression) (cells : List syntax.CellPlace) (home : syntax.Home) (ps : List Carrier) (bb sb : tree.Block) (o : Operand) → HaveRoom h → HasCells h cells → CarriesDecorators h low mid ds ps → CarriesExpression h mid high base bb o → high + 6 + length ds ≤ top → Within low top sl sh → IsOff h sl sh (decorated_at (high + 6) ds (operand.Temp (high + 5))) → CarriesTarget h sl sh (decorated_at (high + 6) ds (operand.Temp (high + 5))) (syntax.ToName line home) sb → CarriesStatement h low top caught (syntax.Class line ds name base code cells home) (tree.append (class_block h high line ds ps name bb o code cells) sb)

-- comprehensions where they stand, their clauses, and the bodies of their codes
pub record CarriesComprehensions : Type 0 where
  pub comprehension : (h : Homes) (low high line code : ℕ) (x : syntax.Expression) (cells : List syntax.CellPlace) (xb : tree.Block) (o : Operand) → HaveRoom h → HasCells h cells → CarriesExpression h low high x xb o → CarriesExpression h low (high + 5) (syntax.Comprehension line code x cells) (comprehension_block h high line code xb o cells) (operand.Temp (high + 4))
  pub push : (h : Homes) (low high line : ℕ) (into : Operand) (x : syntax.Expression) (b : tree.Block) (o : Operand) → CarriesExpression h low high x b o → CarriesTurns h low (high + 1) line into (syntax.Push x) (push_block line high into b o)
  pub put : (h : Homes) (low mid high line : ℕ) (into : Operand) (key x : syntax.Expression) (kb b : tree.Block) (k o : Operand) → CarriesExpression h low mid key kb k → CarriesExpression h mid high x b o → CarriesTurns h low (high + 1) line into (syntax.Put key x) (entry_block line high into kb k b o)
  pub emit : (h : Homes) (low high line : ℕ) (into : Operand) (x : syntax.Expression) (b : tree.Block) (o : Operand) → CarriesExpression h low high x b o → CarriesTurns h low (high + 1) line into (syntax.Emit x) (emit_block line high b o)
  pub filter : (h : Homes) (low high tl th bl bh line : ℕ) (into : Operand) (test : syntax.Expression) (inner : syntax.Turns) (tb b : tree.Block) (o : Operand) → behind h ≤ low → Within low high tl th → Within low high bl bh → CarriesExpression h tl th test tb o → CarriesTurns h bl bh line into inner b → CarriesTurns h low (high + 1) line into (syntax.Filter test inner) (filter_block line high tb o b)
  pub ranging : (h : Homes) (low high xl xh il ih bl bh item line : ℕ) (into : Operand) (target : syntax.Target) (over : syntax.Expression) (inner : syntax.Turns) (xb bind bb : tree.Block) (o : Operand) → behind h ≤ low → Within low high xl xh → Within low high il ih → Within low high bl bh → low ≤ item → item < high → ((item < il) ⊎ (ih ≤ item)) → CarriesExpression h xl xh over xb o → CarriesTarget h il ih (operand.Temp item) target bind → CarriesTurns h bl bh line into inner bb → CarriesTurns h low (high + 5) line into (syntax.Ranging target over inner) (for_block line high item xb o bind bb tree.Stop)
  -- a generator expression, which has its first iterator as its one parameter
  pub generates : (z : Setting) (h : Homes) (low high il ih bl bh item line : ℕ) (target : syntax.Target) (inner : syntax.Turns) (bind bb : tree.Block) → 0 < h.filled → behind h ≤ low → Within low high il ih → Within low high bl bh → low ≤ item → item < high → ((item < il) ⊎ (ih ≤ item)) → CarriesTarget h il ih (operand.Temp item) target bind → CarriesTurns h bl bh line (operand.Const const.None) inner bb → CarriesBody z h (syntax.Collect line None target inner) (over_block line high item (local_at h 0) bind bb)
  -- any other comprehension, which collects into a temporary apart from the others
  pub gathers : (z : Setting) (h : Homes) (low high il ih bl bh item into line : ℕ) (o : Op) (target : syntax.Target) (inner : syntax.Turns) (bind bb : tree.Block) → 0 < h.filled → behind h ≤ low → Within low high il ih → Within low high bl bh → low ≤ item → item < high → ((item < il) ⊎ (ih ≤ item)) → IsOff h low (high + 5) (operand.Temp into) → CarriesTarget h il ih (operand.Temp item) target bind → CarriesTurns h bl bh line (operand.Temp into) inner bb → CarriesBody z h (syntax.Collect line (Some o) target inner) (gathers_block line into o (over_block line high item (local_at h 0) bind bb))

-- `yield from`
abbrev pub CarriesDelegation : Type 0
CarriesDelegation = (h : Homes) (low high line : ℕ) (x : syntax.Expression) (b : tree.Block) (o : Operand) → CarriesExpression h low high x b o → CarriesExpression h low (high + 13) (syntax.YieldFrom line x) (delegate_block line high b o (sent_block line high) (thrown_block line high)) (operand.Temp (high + 7))
