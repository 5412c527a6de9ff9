-- A walk over a tree: what is made on the way, and in which order.
use Rattle.std.specs.Prelude.{ℕ, List}
use Rattle.nu_value.specs.declared.header.Header.{Header}
use Rattle.node_tree.specs.Blocks as tree
use Rattle.node_tree.specs.declared.script.NodeCode.{NodeCode}
use Rattle.node_tree.specs.Run as node_run
use Rattle.node_tree.specs.Tree as nodes
use Rattle.py_meaning.specs.Syntax as syntax
use Rattle.carries_base.specs.Carries.{Carrier}
use Rattle.carried_codes.specs.Parts as parts
use Rattle.carried_codes.specs.Nodes.{code_nodes}

-- a code of primitive statements: what is known before it runs, how many cells it is handed, and its body
pub record Coded : Type 0 where
  pub header : Header
  pub free : ℕ
  pub body : tree.Block

abbrev pub coded : syntax.Code → Coded
coded c = record { header = c.header; free = c.frees; body = code_nodes c }

abbrev pub seen : NodeCode → Coded
seen k = record { header = node_run.header k; free = k.free; body = nodes.block k.body }

-- the next temporary, the number of the next scope, and the codes of the scopes so far, in the order of their numbers
pub record State : Type 0 where
  pub temp : ℕ
  pub scope : ℕ
  pub codes : List Coded

pub record Walked (A : Type 0) : Type 0 where
  pub is : A
  pub state : State

abbrev pub Walking : Type 0 → Type 0
Walking A = State → Walked A

abbrev pub walked : {A : Type 0} → A → State → Walked A
walked x s = record { is = x; state = s }

abbrev pub and_then : {A B : Type 0} → Walking A → (A → Walking B) → Walking B
and_then m f s = let a = m s in f a.is a.state

abbrev pub made : {A B : Type 0} → (A → B) → Walking A → Walking B
made f m s = let a = m s in walked (f a.is) a.state

-- where the next temporary is another one
abbrev pub at : ℕ → State → State
at t s = record { temp = t; scope = s.scope; codes = s.codes }

-- a construct whose parts are made
abbrev pub valued : (ℕ → parts.Valued) → Walking Carrier
valued f s = let v = f s.temp in walked v.part (at v.next s)

abbrev pub done : (ℕ → parts.Made) → Walking tree.Block
done f s = let m = f s.temp in walked m.block (at m.next s)
