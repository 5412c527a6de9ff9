-- What an expression becomes.
use Rattle.std.specs.Prelude.{◌≡◌, ℕ, ◌+◌, ◌≤◌, Bool, false, List, Option, Some, None, Result, Ok, Err}
use Rattle.op_forms.specs.declared.op.Op.{Op}
use Rattle.py_ast.specs.declared.expr.Expr.{Expr}
use Rattle.node_tree.specs.Blocks as tree
use Rattle.node_tree.specs.Contents.{total, yields}
use Rattle.node_tree.specs.Tree.{block}
use Rattle.py_meaning.specs.Syntax as syntax
use Rattle.py_meaning.specs.Resolved as meaning
use Rattle.py_meaning.specs.Resolved.{Context, Making, pure, home_in}
use Rattle.carries_base.specs.Frames.{Homes, behind}
use Rattle.carries_base.specs.Carries.{CarriesExpression}
use Rattle.reform_base.specs.declared.Part.{Part}
use Rattle.reform_expr.specs.Parts.{Range, CarriesEach, totals}
use Rattle.reform_all.specs.declared.ending.ReformEnd.{ReformEnd}
use Rattle.reform_all.specs.declared.ending.ReformEnd.TheVariants as end
use Rattle.reform_all.specs.Built as built
use Rattle.reform_all.specs.Taken.{refused}

-- a place in the statements of a module: every name lives there
pub record InModule (c : Context) : Type 0 where
  pub homes : (x : List ℕ) → home_in c x ≡ syntax.Module x

-- it is this, whatever scope comes next, and no scope stands in it
abbrev pub Is : {A : Type 0} → Making A → A → Type 0
Is m x = (next : ℕ) → m next ≡ pure x next

-- a part has the blocks of other parts and a statement behind them, which does an operation on what they leave; the statement writes the
-- one temporary that is drawn for it
pub record Does (line : ℕ) (o : Op) (x : tree.Form) (old new : ℕ) (ps : List Part) (p : Part) : Type 0 where
  pub drawn : new ≡ old + 1
  pub carries : (h : Homes) (low : ℕ) (xs : syntax.Expressions) (rs : List Range) → CarriesEach h low old xs ps rs → CarriesExpression h low new (syntax.Operation line o xs) (block p.block) p.value
  pub contents : (count : tree.Form → ℕ) → total count (block p.block) ≡ totals count ps + count x

abbrev pub names_print : Option (List ℕ) → Bool
names_print (Some x) = built.is_print x
names_print None = false

-- the expression is built, and the part carries what it is evaluated as
pub record IsExpressed (bound : List (List ℕ)) (x : Expr) (old new : ℕ) (p : Part) : Type 0 where
  pub built : (built.expr x).unbuilt bound ≡ None
  pub grows : old ≤ new
  pub means : (c : Context) → InModule c → syntax.Expression
  pub is : (c : Context) → (m : InModule c) → Is ((meaning.expr x).value c) (means c m)
  pub carries : (c : Context) → (m : InModule c) → (h : Homes) (low : ℕ) → behind h ≤ low → low ≤ old → CarriesExpression h low new (means c m) (block p.block) p.value
  -- each operation takes what it is given, and there is no pause
  pub taken : refused (block p.block) ≡ 0
  pub yields : yields (block p.block) ≡ 0

-- the line of the first thing that is not built, or want of memory
abbrev pub Fails : Option ℕ → ReformEnd → Type 0
Fails unbuilt (end.Unbuilt line) = unbuilt ≡ Some line
Fails unbuilt end.Memory = Unit {0}

abbrev pub Expressed : List (List ℕ) → Expr → ℕ → ℕ → Result Part ReformEnd → Type 0
Expressed bound x old new (Ok p) = IsExpressed bound x old new p
Expressed bound x old new (Err e) = Fails ((built.expr x).unbuilt bound) e
