-- The primitive statements of `try` with `except` clauses, whose parts are evaluated and whose bodies are made (reference, section 8.4).
use Rattle.std.specs.Prelude.{ℕ, ◌+◌, List, [], ◌∷◌, Option, Some, None}
use Rattle.op_forms.specs.declared.constant.Const.TheVariants as const
use Rattle.code_forms.specs.declared.operand.Operand.TheVariants as operand
use Rattle.node_tree.specs.Blocks.{alone}
use Rattle.node_tree.specs.Blocks as tree
use Rattle.carries_base.specs.Carries.{Carrier}
use Rattle.carries_control.specs.Finish.{finally_block}
use Rattle.carries_control.specs.Tries.{try_block, clause_block}
use Rattle.carried_codes.specs.Seats.{Seat, stores, unbinds}
use Rattle.carried_codes.specs.Parts.{Several, several, Made, made}

-- the name that a clause binds, with the clause's line
pub record Bound : Type 0 where
  pub line : ℕ
  pub seat : Seat

-- a clause: its body, which finds the exception in a temporary; and its class, if it has one, with the line of that, and the name that
-- it binds
pub data Clause : Type 0 where
  Bare : (caught : ℕ) (body : tree.Block) → Clause
  Class : (line : ℕ) (part : Carrier) (caught : ℕ) (name : Option Bound) (body : tree.Block) → Clause

-- a clause with the temporaries that are drawn for it: the one that tells whether its class fits
pub data Guard : Type 0 where
  Any : (caught : ℕ) (body : tree.Block) → Guard
  Only : (line : ℕ) (part : Carrier) (fits caught : ℕ) (body : tree.Block) → Guard

-- the name is bound to the exception while the body runs, then set to None and unbound
unfoldable pub name_clause : ℕ → Seat → ℕ → tree.Block → ℕ → Made
name_clause line s caught b t =
    made (tree.append (alone (stores t line s (operand.Temp caught))) (finally_block (t + 3) b (tree.append (alone (stores (t + 1) line s (operand.Const const.None))) (unbinds (t + 2) line s)))) (t + 3 + 5)

abbrev pub clause_body : ℕ → Option Bound → tree.Block → ℕ → Made
clause_body caught None b t = made b t
clause_body caught (Some name) b t = name_clause name.line name.seat caught b t

-- a clause that is guarded, with the next temporary
pub record Guarded : Type 0 where
  pub guard : Guard
  pub next : ℕ

abbrev pub guard : ℕ → Clause → Guarded
guard t (Bare caught b) = record { guard = Any caught b; next = t }
guard t (Class line p caught name b) = let m = clause_body caught name b t in record { guard = Only line p m.next caught m.block; next = m.next + 1 }

-- the last clause draws first
abbrev pub guards : ℕ → List Clause → Several Guard
guards t [] = several [] t
guards t (c ∷ cs) = let gs = guards t cs in let g = guard gs.next c in several (g.guard ∷ gs.parts) g.next

-- the exception in x is handed to the first clause that fits; where none does, it goes on
abbrev pub handle : ℕ → Guard → tree.Block → tree.Block
handle x (Any caught b) rest = tree.Follow (tree.Copy caught x) b
handle x (Only line p fits caught b) rest = clause_block line x fits p.block p.value (tree.Follow (tree.Copy caught x) b) rest

abbrev pub handles : ℕ → List Guard → tree.Block
handles x [] = alone (tree.Raise (operand.Temp x))
handles x (g ∷ gs) = handle x g (handles x gs)

unfoldable pub try_block_of : tree.Block → tree.Block → tree.Block → ℕ → Made
try_block_of body handlers other x = made (try_block x body handlers other) (x + 2)

abbrev pub try_except : ℕ → tree.Block → List Clause → tree.Block → Made
try_except t body cs other = let gs = guards t cs in try_block_of body (handles gs.next gs.parts) other gs.next
