-- What assignments become.
use Rattle.std.specs.Prelude.{◌≡◌, ℕ, ◌≤◌, List, map, Option, None, Result, Ok, Err}
use Rattle.py_ast.specs.declared.expr.Binary.{Binary}
use Rattle.py_ast.specs.declared.expr.Expr.{Expr}
use Rattle.node_tree.specs.declared.node.Node.{Node}
use Rattle.code_forms.specs.declared.operand.Operand.{Operand}
use Rattle.node_tree.specs.Tree as tree
use Rattle.py_meaning.specs.Syntax as syntax
use Rattle.py_meaning.specs.Resolved as meaning
use Rattle.py_meaning.specs.Resolved.{Context}
use Rattle.carries_base.specs.Frames.{Homes, behind}
use Rattle.carries_base.specs.Carries.{CarriesStatement}
use Rattle.reform_unpack.specs.declared.place.Place.{Place}
use Rattle.reform_unpack.specs.Places.{target_of}
use Rattle.reform_unpack.specs.Laws.{CarriesTargets}
use Rattle.reform_all.specs.declared.ending.ReformEnd.{ReformEnd}
use Rattle.reform_all.specs.Built as built
use Rattle.reform_all.specs.Quiet.{Quiet}
use Rattle.reform_all.specs.Expressions.{InModule, Is, Fails}

-- a target is a name, and this place
pub record IsPlaced (x : Expr) (place : Place) : Type 0 where
  pub built : built.target x ≡ None
  pub is : (c : Context) → InModule c → Is ((meaning.expr x).target c) (target_of place)

abbrev pub Placed : Expr → Result Place ReformEnd → Type 0
Placed x (Ok place) = IsPlaced x place
Placed x (Err e) = Fails (built.target x) e

-- the line of the first of these that is no name
abbrev pub no_name : List Expr → Option ℕ
no_name ts = built.first (map built.target ts)

-- all are names
abbrev pub AllPlaced : List Expr → Result (Unit {0}) ReformEnd → Type 0
AllPlaced ts (Ok done) = no_name ts ≡ None
AllPlaced ts (Err e) = Fails (no_name ts) e

-- all are names, and nodes carry that the value of an operand goes to them
pub record AreStored (ts : List Expr) (value : Operand) (old new : ℕ) (nodes : List Node) : Type 0 where
  pub built : no_name ts ≡ None
  pub grows : old ≤ new
  pub means : syntax.Targets
  pub is : (c : Context) → InModule c → Is (meaning.targets c (map meaning.expr ts)) means
  pub carries : (h : Homes) (low : ℕ) → behind h ≤ low → low ≤ old → CarriesTargets h low new value means (tree.block nodes)
  pub quiet : Quiet nodes

abbrev pub AllStored : List Expr → Operand → ℕ → ℕ → Result (List Node) ReformEnd → Type 0
AllStored ts value old new (Ok nodes) = AreStored ts value old new nodes
AllStored ts value old new (Err e) = Fails (no_name ts) e

-- nodes carry a statement by what it is executed as; the line of the first thing in it that is not built is this
pub record Becomes (unbuilt : Option ℕ) (meant : Context → meaning.Making syntax.Statement) (old new : ℕ) (nodes : List Node) : Type 0 where
  pub built : unbuilt ≡ None
  pub grows : old ≤ new
  pub means : (c : Context) → InModule c → syntax.Statement
  pub is : (c : Context) → (m : InModule c) → Is (meant c) (means c m)
  pub carries : (c : Context) → (m : InModule c) → (h : Homes) (low : ℕ) (caught : Option ℕ) → behind h ≤ low → low ≤ old → CarriesStatement h low new caught (means c m) (tree.block nodes)
  -- each operation takes what it is given, and there is no pause
  pub quiet : Quiet nodes

abbrev pub Answers : Option ℕ → (Context → meaning.Making syntax.Statement) → ℕ → ℕ → Result (List Node) ReformEnd → Type 0
Answers unbuilt meant old new (Ok nodes) = Becomes unbuilt meant old new nodes
Answers unbuilt meant old new (Err e) = Fails unbuilt e

abbrev pub Assigned : List (List ℕ) → List Expr → Expr → ℕ → ℕ → Result (List Node) ReformEnd → Type 0
Assigned bound ts x =
    Answers (built.before (no_name ts) ((built.expr x).unbuilt bound))
    (λ c. meaning.and_then (meaning.targets c (map meaning.expr ts)) (λ t. meaning.made (syntax.Assign t) ((meaning.expr x).value c)))

abbrev pub Augmented : List (List ℕ) → ℕ → Expr → Binary → Expr → ℕ → ℕ → Result (List Node) ReformEnd → Type 0
Augmented bound line to operator x =
    Answers (built.before (built.target to) ((built.expr x).unbuilt bound))
    (λ c. meaning.and_then ((meaning.expr to).target c) (λ t. meaning.made (syntax.Augment line (meaning.augmented_op operator) t) ((meaning.expr x).value c)))
