-- What stands before the body of a code: its cells are made, and its local variables are Unset.
use Rattle.std.specs.Prelude.{◌≡◌, ℕ, zero, suc, ◌+◌, ◌<◌, List, [], ◌∷◌, length, Option, Some, None}
use Rattle.op_forms.specs.declared.op.Op.TheVariants as op
use Rattle.node_tree.specs.declared.script.NodeCode.{NodeCode}
use Rattle.node_tree.specs.Blocks.{of_temp}
use Rattle.node_tree.specs.Blocks as tree
use Rattle.node_tree.specs.Nodes as nodes
use Rattle.py_meaning.specs.Syntax as syntax
use Rattle.py_meaning.specs.Bodies as bodies
use Rattle.carries_base.specs.Frames.{Homes, local_at, own_at}
use Rattle.carries_base.specs.Carries.{Setting, source, target, Correspond, BodyEnds, CarriedBy}

-- so many local variables, from this one on, are Unset, which scripts see alone
abbrev pub unset_block : Homes → ℕ → ℕ → tree.Block → tree.Block
unset_block h place zero b = b
unset_block h place (suc n) b = tree.Follow (tree.Unset (local_at h place)) (unset_block h (place + 1) n b)

-- the temporary of a cell is given a parameter, if the cell is one's
abbrev pub filled_block : Homes → ℕ → ℕ → ℕ → Option ℕ → tree.Block → tree.Block
filled_block h line t own None b = b
filled_block h line t own (Some place) b = tree.Follow (tree.Do t line op.CellSet (of_temp (own_at h own) ∷ of_temp (local_at h place) ∷ [])) b

-- cells from this one on are made in their order
abbrev pub cells_block : Homes → ℕ → ℕ → ℕ → List (Option ℕ) → tree.Block → tree.Block
cells_block h line t own [] b = b
cells_block h line t own (x ∷ xs) b = tree.Follow (tree.Do (own_at h own) line op.Cell []) (filled_block h line t own x (cells_block h line t (own + 1) xs b))

-- behind the parameters stand so many more local variables
abbrev pub begun_block : Homes → ℕ → ℕ → ℕ → List (Option ℕ) → tree.Block → tree.Block
begun_block h line t more owns b = unset_block h h.params more (cells_block h line t 0 owns b)

-- each cell that holds a parameter at first holds one of so many
abbrev pub HoldParams : ℕ → List (Option ℕ) → Type 0
HoldParams params [] = Unit {0}
HoldParams params (None ∷ xs) = HoldParams params xs
HoldParams params (Some place ∷ xs) = (place < params) × HoldParams params xs

-- the homes of a code, once its body begins: each local variable and each cell has its temporary
pub record AreWhole (h : Homes) (more : ℕ) (cells : List (Option ℕ)) : Type 0 where
  pub locals : h.params + more ≡ h.locals
  pub filled : h.filled ≡ h.locals
  pub owns : length cells ≡ h.owns
  pub made : h.made ≡ h.owns
  pub hold : HoldParams h.params cells

-- what stands before a code and its nodes has the homes of the code
pub record HaveHomes (h : Homes) (c : syntax.Code) (k : NodeCode) : Type 0 where
  pub params : length c.header.params ≡ h.params
  pub given : length k.header.params ≡ h.params
  pub frees : c.frees ≡ h.frees
  pub cells : k.free ≡ h.frees
  pub locals : c.locals ≡ h.locals
  pub kind : k.header.generator ≡ c.header.generator

-- the body of a code is carried, from where its local variables and cells have their temporaries
abbrev pub CarriesBody : Setting → Homes → syntax.Body → tree.Block → Type 0
CarriesBody z h body b = CarriedBy z h (λ tabs. Correspond z h tabs []) (BodyEnds z) (bodies.body_row (source z) body) (nodes.block_row (target z) b)
