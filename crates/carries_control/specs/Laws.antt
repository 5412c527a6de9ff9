-- What blocks carry of `for`, of `raise` and `assert`, and of `try`.
use Rattle.std.specs.Prelude.{◌⊎◌, ℕ, ◌+◌, ◌<◌, ◌≤◌, List, Option, Some, None}
use Rattle.op_forms.specs.declared.constant.Const.TheVariants as const
use Rattle.code_forms.specs.declared.operand.Operand.{Operand}
use Rattle.code_forms.specs.declared.operand.Operand.TheVariants as operand
use Rattle.node_tree.specs.Blocks.{alone}
use Rattle.node_tree.specs.Blocks as tree
use Rattle.py_meaning.specs.Syntax as syntax
use Rattle.py_meaning.specs.Statements.{assign_all}
use Rattle.carries_base.specs.Frames.{Homes, behind}
use Rattle.carries_base.specs.Carries.{Carrier, CarriesExpression, CarriesTarget, CarriesGiven, CarriesStatement, CarriesBlock, CarriesAll}
use Rattle.carries_base.specs.Laws.{Within}
use Rattle.carries_control.specs.Raises.{raise_block, assert_block}
use Rattle.carries_control.specs.Loops.{for_block}
use Rattle.carries_names.specs.Names.{CarriesDeletion}
use Rattle.carries_control.specs.Finish.{finally_block, with_block}
use Rattle.carries_control.specs.Tries.{try_block, clause_block, CarriesHandlers, CarriesClause}

pub record CarriesRaises : Type 0 where
  pub raise : (h : Homes) (low high line : ℕ) (caught : Option ℕ) (x : syntax.Expression) (b : tree.Block) (o : Operand) → CarriesExpression h low high x b o → CarriesStatement h low (high + 2) caught (syntax.Raise line x) (tree.append b (raise_block line high o))
  -- in an `except` clause
  pub reraise : (h : Homes) (low temp : ℕ) → behind h ≤ low → CarriesStatement h low low (Some temp) syntax.Reraise (alone (tree.Raise (operand.Temp temp)))
  pub assert : (h : Homes) (low mid high line : ℕ) (caught : Option ℕ) (test : syntax.Expression) (texts : syntax.Expressions) (tb : tree.Block) (o : Operand) (ps : List Carrier) → CarriesExpression h low mid test tb o → CarriesAll h mid high texts ps → CarriesStatement h low (high + 5) caught (syntax.Assert line test texts) (assert_block line high tb o ps)

-- the parts may write any temporaries in front of those that are drawn for the statement, apart or not; `item` is apart from those that
-- its target writes
abbrev pub CarriesFor : Type 0
CarriesFor = (h : Homes) (low high xl xh il ih bl bh ol oh item line : ℕ) (caught : Option ℕ) (target : syntax.Target) (over : syntax.Expression) (body other : syntax.Block) (xb bind bb ob : tree.Block) (o : Operand) → behind h ≤ low → Within low high xl xh → Within low high il ih → Within low high bl bh → Within low high ol oh → low ≤ item → item < high → ((item < il) ⊎ (ih ≤ item)) → CarriesExpression h xl xh over xb o → CarriesTarget h il ih (operand.Temp item) target bind → CarriesBlock h bl bh caught body bb → CarriesBlock h ol oh caught other ob → CarriesStatement h low (high + 5) caught (syntax.For line target over body other) (for_block line high item xb o bind bb ob)

pub record CarriesTries : Type 0 where
  pub try : (h : Homes) (low high bl bh hl hh ol oh : ℕ) (caught : Option ℕ) (body other : syntax.Block) (handlers : syntax.Handlers) (bb hb ob : tree.Block) → behind h ≤ low → Within low high bl bh → Within low high hl hh → Within low high ol oh → CarriesBlock h bl bh caught body bb → CarriesHandlers h hl hh high handlers hb → CarriesBlock h ol oh caught other ob → CarriesStatement h low (high + 2) caught (syntax.Try body handlers other) (try_block high bb hb ob)
  -- where no clause fits, the exception goes on
  pub none : (h : Homes) (low temp : ℕ) → behind h ≤ low → CarriesHandlers h low low temp syntax.NoHandler (alone (tree.Raise (operand.Temp temp)))
  pub bare : (h : Homes) (low high temp : ℕ) (body : syntax.Block) (b : tree.Block) → CarriesBlock h low high (Some temp) body b → CarriesHandlers h low high temp (syntax.Bare body) b
  pub clause : (h : Homes) (low high cl ch bl bh rl rh temp line : ℕ) (class : syntax.Expression) (name : Option syntax.Caught) (body : syntax.Block) (rest : syntax.Handlers) (cb bb rb : tree.Block) (o : Operand) → behind h ≤ low → Within low high cl ch → Within low high bl bh → Within low high rl rh → CarriesExpression h cl ch class cb o → CarriesClause h bl bh temp name body bb → CarriesHandlers h rl rh temp rest rb → CarriesHandlers h low (high + 1) temp (syntax.Handler line class name body rest) (clause_block line temp high cb o bb rb)
  pub unnamed : (h : Homes) (low high temp : ℕ) (body : syntax.Block) (b : tree.Block) → CarriesBlock h low high (Some temp) body b → CarriesClause h low high temp None body b
  -- the exception goes to a temporary of the clause's own first
  pub copied : (h : Homes) (low high bl bh from to : ℕ) (name : Option syntax.Caught) (body : syntax.Block) (b : tree.Block) → behind h ≤ low → Within low high bl bh → low ≤ to → to < high → ((to < bl) ⊎ (bh ≤ to)) → CarriesClause h bl bh to name body b → CarriesClause h low high from name body (tree.Follow (tree.Copy to from) b)

-- what runs after every end
pub record CarriesFinishes : Type 0 where
  pub finally : (h : Homes) (low high bl bh ll lh : ℕ) (caught : Option ℕ) (body last : syntax.Block) (bb lb : tree.Block) → behind h ≤ low → Within low high bl bh → Within low high ll lh → CarriesBlock h bl bh caught body bb → CarriesBlock h ll lh None last lb → CarriesStatement h low (high + 5) caught (syntax.Finally body last) (finally_block high bb lb)
  -- a clause whose name is bound while its body runs, then set to None and unbound
  pub named : (h : Homes) (low high sl sh bl bh nl nh dl dh temp : ℕ) (name : syntax.Caught) (body : syntax.Block) (sb bb nb db : tree.Block) → behind h ≤ low → Within low high sl sh → Within low high bl bh → Within low high nl nh → Within low high dl dh → CarriesTarget h sl sh (operand.Temp temp) (syntax.ToName name.line name.home) sb → CarriesBlock h bl bh (Some temp) body bb → CarriesTarget h nl nh (operand.Const const.None) (syntax.ToName name.line name.home) nb → CarriesDeletion h dl dh (syntax.ToName name.line name.home) db → CarriesClause h low (high + 5) temp (Some name) body (tree.append sb (finally_block high bb (tree.append nb db)))
  -- the target is bound to what `__enter__` gives, which goes to `item`
  pub with_item : (h : Homes) (low high ml mh il ih bl bh item line : ℕ) (caught : Option ℕ) (manager : syntax.Expression) (targets : syntax.Targets) (body : syntax.Block) (mb bind bb : tree.Block) (o : Operand) → behind h ≤ low → Within low high ml mh → Within low high il ih → Within low high bl bh → low ≤ item → item < high → ((item < il) ⊎ (ih ≤ item)) → CarriesExpression h ml mh manager mb o → CarriesGiven h il ih (operand.Temp item) (λ l v. assign_all l v targets) bind → CarriesBlock h bl bh caught body bb → CarriesStatement h low (high + 11) caught (syntax.With line manager targets body) (with_block line high item mb o bind bb)
