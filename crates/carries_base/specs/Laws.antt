-- What blocks carry, and what follows for scripts.
use Rattle.std.specs.Prelude.{◌≡◌, ℕ, ◌+◌, ◌<◌, ◌≤◌, List, [], ◌∷◌, map, Option, Some, None, true, false, slice_get}
use Rattle.nu_run.specs.Runs.{Same}
use Rattle.op_forms.specs.declared.constant.Const.{Const}
use Rattle.op_forms.specs.declared.constant.Const.TheVariants as const
use Rattle.op_forms.specs.declared.op.Op.{Op}
use Rattle.op_forms.specs.declared.op.Op.TheVariants as op
use Rattle.op_forms.specs.Constants.{value_of}
use Rattle.code_forms.specs.declared.operand.Argument.TheVariants as argument
use Rattle.code_forms.specs.declared.operand.Operand.{Operand}
use Rattle.code_forms.specs.declared.operand.Operand.TheVariants as operand
use Rattle.node_tree.specs.Blocks.{alone}
use Rattle.node_tree.specs.Blocks as tree
use Rattle.node_tree.specs.Run.{node_run}
use Rattle.node_tree.specs.Tree.{code_block}
use Rattle.py_meaning.specs.Syntax as syntax
use Rattle.py_meaning.specs.Bodies.{codes_run}
use Rattle.carries_base.specs.Frames.{Homes, HaveRoom, local_at, behind, begun}
use Rattle.carries_base.specs.Carries.{Setting, Carrier, CarriesExpression, CarriesTarget, CarriesStatement, CarriesBlock, CarriesAll, CarriesCode, CarriesScript, joined}

-- a script whose codes are carried has the run of the nodes, over every input
abbrev pub CarriedScriptsAreTheSame : Type 0
CarriedScriptsAreTheSame = (z : Setting) → CarriesScript z → (input : List ℕ) → Same (codes_run z.rules z.script.name z.script.scripts z.codes input) (node_run z.rules z.script input)

-- a branch, whose truth value goes to the temporary t
abbrev pub if_block : ℕ → ℕ → tree.Block → Operand → tree.Block → tree.Block → tree.Block
if_block line t tb o bb ob = tree.append tb (tree.Follow (tree.Do t line op.Truth (argument.Value o ∷ [])) (alone (tree.If (operand.Temp t) bb ob)))

-- a loop: its body stands in a loop of its own, so that `continue` leaves one and `break` both; the temporary `over` tells whether its test
-- failed, which leads to `else`
abbrev pub turn_block : ℕ → ℕ → ℕ → tree.Block → Operand → tree.Block → tree.Block
turn_block line over t tb o bb =
    if_block line t tb o (alone (tree.Loop (tree.append bb (alone (tree.Leave 1))))) (tree.Follow (tree.Constant over (const.Bool true)) (alone (tree.Leave 1)))

abbrev pub while_block : ℕ → ℕ → ℕ → tree.Block → Operand → tree.Block → tree.Block → tree.Block
while_block line over t tb o bb ob =
    tree.Follow (tree.Constant over (const.Bool false)) (tree.Follow (tree.Loop (turn_block line over t tb o bb)) (alone (tree.If (operand.Temp over) ob tree.Stop)))

-- small constructs, each carried where its parts are
pub record CarriesSmall : Type 0 where
  -- a constant, by no statement
  pub constant : (h : Homes) (low : ℕ) (c : Const) → behind h ≤ low → CarriesExpression h low low (syntax.Constant (value_of c)) tree.Stop (operand.Const c)
  -- a local variable that is read
  pub local : (h : Homes) (low line place : ℕ) (name : List ℕ) → HaveRoom h → behind h ≤ low → place < h.filled → CarriesExpression h low (low + 1) (syntax.Name line (syntax.Local place name)) (alone (tree.Do low line op.Local (argument.Value (operand.Temp (local_at h place)) ∷ argument.Name name ∷ []))) (operand.Temp low)
  -- an operation on any number of operands
  pub operation : (h : Homes) (low high line : ℕ) (o : Op) (xs : syntax.Expressions) (ps : List Carrier) → CarriesAll h low high xs ps → CarriesExpression h low (high + 1) (syntax.Operation line o xs) (joined ps (alone (tree.Do high line o (map (λ p. argument.Value p.value) ps)))) (operand.Temp high)
  -- a pause, with operands that are kept over it
  pub yields : (h : Homes) (low high line : ℕ) (x : syntax.Expression) (b : tree.Block) (o : Operand) → CarriesExpression h low high x b o → CarriesExpression h low (high + 1) (syntax.Yield line x) (tree.append b (alone (tree.Yield high line o))) (operand.Temp high)

-- a part writes temporaries from low to high alone
abbrev pub Within : ℕ → ℕ → ℕ → ℕ → Type 0
Within low high l r = (low ≤ l) × (r ≤ high)

-- statements and blocks
pub record CarriesStatements : Type 0 where
  -- no statement
  pub done : (h : Homes) (low high : ℕ) (caught : Option ℕ) → behind h ≤ low → low ≤ high → CarriesBlock h low high caught syntax.Done tree.Stop
  pub pass : (h : Homes) (low high : ℕ) (caught : Option ℕ) → behind h ≤ low → low ≤ high → CarriesStatement h low high caught syntax.Pass tree.Stop
  pub evaluate : (h : Homes) (low high : ℕ) (caught : Option ℕ) (x : syntax.Expression) (b : tree.Block) (o : Operand) → CarriesExpression h low high x b o → CarriesStatement h low high caught (syntax.Evaluate x) (tree.append b tree.Stop)
  pub then : (h : Homes) (low mid high : ℕ) (caught : Option ℕ) (s : syntax.Statement) (rest : syntax.Block) (b c : tree.Block) → CarriesStatement h low mid caught s b → CarriesBlock h mid high caught rest c → CarriesBlock h low high caught (syntax.Then s rest) (tree.append b c)
  -- the parts may write any temporaries in front of those that are drawn for the statement, apart or not
  pub branch : (h : Homes) (low high tl th bl bh ol oh line : ℕ) (caught : Option ℕ) (test : syntax.Expression) (body other : syntax.Block) (tb bb ob : tree.Block) (o : Operand) → behind h ≤ low → Within low high tl th → Within low high bl bh → Within low high ol oh → CarriesExpression h tl th test tb o → CarriesBlock h bl bh caught body bb → CarriesBlock h ol oh caught other ob → CarriesStatement h low (high + 1) caught (syntax.If line test body other) (if_block line high tb o bb ob)
  -- with `break`, `continue` and `else`
  pub while : (h : Homes) (low high tl th bl bh ol oh line : ℕ) (caught : Option ℕ) (test : syntax.Expression) (body other : syntax.Block) (tb bb ob : tree.Block) (o : Operand) → behind h ≤ low → Within low high tl th → Within low high bl bh → Within low high ol oh → CarriesExpression h tl th test tb o → CarriesBlock h bl bh caught body bb → CarriesBlock h ol oh caught other ob → CarriesStatement h low (high + 1 + 1) caught (syntax.While line test body other) (while_block line high (high + 1) tb o bb ob)
  pub return : (h : Homes) (low high : ℕ) (caught : Option ℕ) (x : syntax.Expression) (b : tree.Block) (o : Operand) → CarriesExpression h low high x b o → CarriesStatement h low high caught (syntax.Return x) (tree.append b (alone (tree.Return o)))
  pub break : (h : Homes) (low : ℕ) (caught : Option ℕ) → behind h ≤ low → CarriesStatement h low low caught syntax.Break (alone (tree.Leave 2))
  pub continue : (h : Homes) (low : ℕ) (caught : Option ℕ) → behind h ≤ low → CarriesStatement h low low caught syntax.Continue (alone (tree.Leave 1))
  -- a local variable that gets the value of a temporary
  pub local : (h : Homes) (low line place temp : ℕ) (name : List ℕ) → HaveRoom h → behind h ≤ low → place < h.filled → CarriesTarget h low low (operand.Temp temp) (syntax.ToName line (syntax.Local place name)) (alone (tree.Copy (local_at h place) temp))

-- a code without cells, whose local variables are its parameters, is carried where its block is: modules are such codes
abbrev pub CarriesPlainCodes : Type 0
CarriesPlainCodes = (z : Setting) (code low high : ℕ) (c : syntax.Code) (body : syntax.Block) → slice_get z.codes code ≡ Some c → c.owns ≡ [] → c.body ≡ syntax.Statements body → begun (z.homes code) ≡ z.homes code → CarriesBlock (z.homes code) low high None body (code_block z.script.codes code) → CarriesCode z code
