-- What a walk comes to: what the meaning makes of the tree, and the primitive statements of that.
use Rattle.std.specs.Prelude.{◌≡◌, ℕ, ◌++◌, map, Option}
use Rattle.node_tree.specs.Blocks as tree
use Rattle.py_ast.specs.declared.expr.Expr.{Expr}
use Rattle.py_ast.specs.declared.scoped.Scoped.{Scoped}
use Rattle.py_ast.specs.declared.stmt.Stmt.{Stmt}
use Rattle.py_meaning.specs.Syntax as syntax
use Rattle.py_meaning.specs.Resolved as meaning
use Rattle.py_meaning.specs.Resolved.{Context, Making}
use Rattle.carries_base.specs.Carries.{Carrier}
use Rattle.carried_codes.specs.Nodes as nodes
use Rattle.carried_codes.specs.Places as places
use Rattle.walk_laws.specs.States.{State, Walking, walked, coded}
use Rattle.walk_laws.specs.Contexts.{homes_in}
use Rattle.walk_laws.specs.Expressions as walk
use Rattle.walk_laws.specs.Statements as statements

-- something of the nodes, with the next temporary
pub record Out (B : Type 0) : Type 0 where
  pub is : B
  pub next : ℕ

-- what is made is translated, from the next temporary on
abbrev pub through : {A B : Type 0} → (ℕ → A → Out B) → Making A → Walking B
through f m s =
    let a = m s.scope in
    let b = f s.temp a.is in
    walked b.is (record { temp = b.next; scope = a.next; codes = s.codes ++ map coded a.codes })

-- it is walked as it means
pub record As {A B : Type 0} (f : ℕ → A → Out B) (m : Making A) (w : Walking B) : Type 0 where
  pub same : (s : State) → w s ≡ through f m s

abbrev pub value_at : Context → ℕ → syntax.Expression → Out Carrier
value_at c t x = let v = nodes.value (homes_in c) t x in record { is = v.part; next = v.next }

abbrev pub place_at : Context → ℕ → syntax.Target → Out places.Place
place_at c t x = let p = nodes.place (homes_in c) t x in record { is = p.place; next = p.next }

pub record AsMeant (p : meaning.Part) (w : walk.Part) : Type 0 where
  pub value : (c : Context) → As (value_at c) (p.value c) (w.value c)
  pub target : (c : Context) → As (place_at c) (p.target c) (w.target c)

abbrev pub ExpressionsAreWalked : Type 0
ExpressionsAreWalked = (x : Expr) → AsMeant (meaning.expr x) (walk.expr x)

abbrev pub block_at : Context → Option ℕ → ℕ → syntax.Block → Out tree.Block
block_at c caught t b = let m = nodes.block (homes_in c) caught t b in record { is = m.block; next = m.next }

abbrev pub statement_at : Context → Option ℕ → ℕ → syntax.Statement → Out tree.Block
statement_at c caught t x = let m = nodes.statement (homes_in c) caught t x in record { is = m.block; next = m.next }

abbrev pub StatementsAreWalked : Type 0
StatementsAreWalked = (x : Stmt) (c : Context) (caught : Option ℕ) → As (statement_at c caught) (meaning.stmt x c) (statements.stmt x c caught)

abbrev pub ScriptsAreWalked : Type 0
ScriptsAreWalked = (first : ℕ) (s : Scoped) → statements.script_codes first s ≡ map coded (meaning.codes_of first s)
