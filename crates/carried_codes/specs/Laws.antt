-- Lawful codes are carried by their nodes.
use Rattle.std.specs.Prelude.{◌≡◌, ℕ, ◌<◌, ◌≤◌, Bool, IsTrue, List, [], ◌∷◌, Option, Some, None, slice_get}
use Rattle.nu_run.specs.Runs.{Same}
use Rattle.op_forms.specs.Rules.{Rules}
use Rattle.node_tree.specs.declared.script.NodeCode.{NodeCode}
use Rattle.node_tree.specs.declared.script.NodeScript.{NodeScript}
use Rattle.node_tree.specs.Run as node_run
use Rattle.node_tree.specs.Tree as tree
use Rattle.py_meaning.specs.Syntax as syntax
use Rattle.py_meaning.specs.Bodies.{codes_run}
use Rattle.py_safe.specs.Rosters.{Role, Roster}
use Rattle.py_safe.specs.Constructs.{Room, IsFalse, LawfulExpression, LawfulBlock, LawfulCode, LawfulCodes}
use Rattle.carries_base.specs.Frames.{Homes, HaveRoom, behind}
use Rattle.carries_base.specs.Carries.{Setting, CarriesExpression, CarriesBlock, CarriesCode}
use Rattle.carried_codes.specs.Nodes.{value, block, homes_of, code_nodes}

-- the homes have what such a room has
pub record Houses (r : Room) (h : Homes) : Type 0 where
  pub room : HaveRoom h
  pub locals : r.locals ≡ h.filled
  pub owns : r.owns ≡ h.made
  pub frees : r.frees ≡ h.frees
  pub names : IsTrue r.names → 0 < h.filled

-- in an `except` clause its exception is in a temporary
abbrev pub Catches : Room → Option ℕ → Type 0
Catches r None = IsFalse r.handler
Catches r (Some caught) = Unit {0}

abbrev pub ExpressionsAreCarried : Type 0
ExpressionsAreCarried = (c : Roster) (r : Room) (h : Homes) (t : ℕ) (x : syntax.Expression) → Houses r h → behind h ≤ t → LawfulExpression c r x
    → CarriesExpression h t (value h t x).next x (value h t x).part.block (value h t x).part.value

abbrev pub BlocksAreCarried : Type 0
BlocksAreCarried = (c : Roster) (r : Room) (h : Homes) (caught : Option ℕ) (loop : Bool) (t : ℕ) (b : syntax.Block) → Houses r h → Catches r caught → behind h ≤ t → LawfulBlock c r loop b
    → CarriesBlock h t (block h caught t b).next caught b (block h caught t b).block

-- each lawful code is carried by its nodes
abbrev pub CodesAreCarried : Type 0
CodesAreCarried = (r : Roster) (role : Role) (z : Setting) (n : ℕ) (c : syntax.Code) → slice_get z.codes n ≡ Some c → z.homes n ≡ homes_of c → tree.code_block z.script.codes n ≡ code_nodes c → LawfulCode r role c → CarriesCode z n

-- the nodes of a code, and what stands before them
pub record IsMadeOf (c : syntax.Code) (k : NodeCode) : Type 0 where
  pub header : node_run.header k ≡ c.header
  pub free : k.free ≡ c.frees
  pub body : tree.block k.body ≡ code_nodes c

abbrev pub AreMadeOf : List syntax.Code → List NodeCode → Type 0
AreMadeOf [] [] = Unit {0}
AreMadeOf (c ∷ cs) (k ∷ ks) = IsMadeOf c k × AreMadeOf cs ks
AreMadeOf cs ks = ⊥

-- a script whose codes are lawful has the run of their nodes, over every input
abbrev pub ScriptsAreCarried : Type 0
ScriptsAreCarried = (rules : Rules) (role : ℕ → Role) (script : NodeScript) (codes : List syntax.Code) → LawfulCodes role script.scripts codes → AreMadeOf codes script.codes → (input : List ℕ)
    → Same (codes_run rules script.name script.scripts codes input) (node_run.node_run rules script input)
