-- The primitive statements that read, bind and unbind names, by their homes.
use Rattle.std.specs.Prelude.{ℕ, ◌<◌, ◌≤◌, [], ◌∷◌}
use Rattle.op_forms.specs.declared.op.Op.TheVariants as op
use Rattle.code_forms.specs.declared.operand.Argument.TheVariants as argument
use Rattle.code_forms.specs.declared.operand.Operand.{Operand}
use Rattle.node_tree.specs.Blocks.{alone, puts, of_temp}
use Rattle.node_tree.specs.Blocks as tree
use Rattle.node_tree.specs.Nodes as nodes
use Rattle.py_meaning.specs.Syntax as syntax
use Rattle.py_meaning.specs.Statements.{delete, delete_each}
use Rattle.py_meaning.specs.Frames as python
use Rattle.carries_base.specs.Frames.{Homes, local_at, own_at, free_at, behind, Facts, Outside}
use Rattle.carries_base.specs.Carries.{Setting, source, target, Carried}

-- the name has its temporary, if it is to have one; the names of a class are the first parameter of its code
abbrev pub HasPlace : Homes → syntax.Home → Type 0
HasPlace h (syntax.Local place name) = place < h.filled
HasPlace h (syntax.Own place name) = place < h.made
HasPlace h (syntax.Free place name) = place < h.frees
HasPlace h (syntax.Module name) = Unit {0}
HasPlace h (syntax.InClass name) = 0 < h.filled

-- a name is read
abbrev pub reads : Homes → ℕ → ℕ → syntax.Home → tree.Form
reads h to line (syntax.Local place name) = tree.Do to line op.Local (of_temp (local_at h place) ∷ argument.Name name ∷ [])
reads h to line (syntax.Own place name) = tree.Do to line op.CellGet (of_temp (own_at h place) ∷ argument.Name name ∷ [])
reads h to line (syntax.Free place name) = tree.Do to line op.FreeGet (of_temp (free_at h place) ∷ argument.Name name ∷ [])
reads h to line (syntax.Module name) = tree.Do to line op.Global (argument.Name name ∷ [])
reads h to line (syntax.InClass name) = tree.Do to line op.SpaceGet (of_temp (local_at h 0) ∷ argument.Name name ∷ [])

-- a name is bound to what an operand holds
abbrev pub stores : Homes → ℕ → ℕ → syntax.Home → Operand → tree.Form
stores h to line (syntax.Local place name) o = puts (local_at h place) o
stores h to line (syntax.Own place name) o = tree.Do to line op.CellSet (of_temp (own_at h place) ∷ argument.Value o ∷ [])
stores h to line (syntax.Free place name) o = tree.Do to line op.CellSet (of_temp (free_at h place) ∷ argument.Value o ∷ [])
stores h to line (syntax.Module name) o = tree.Do to line op.SetGlobal (argument.Name name ∷ argument.Value o ∷ [])
stores h to line (syntax.InClass name) o = tree.Do to line op.SpaceSet (of_temp (local_at h 0) ∷ argument.Name name ∷ argument.Value o ∷ [])

-- a name is unbound; a local variable is read before
abbrev pub unbinds : Homes → ℕ → ℕ → syntax.Home → tree.Block
unbinds h to line (syntax.Local place name) = tree.Follow (reads h to line (syntax.Local place name)) (alone (tree.Unset (local_at h place)))
unbinds h to line (syntax.Own place name) = alone (tree.Do to line op.CellDel (of_temp (own_at h place) ∷ argument.Name name ∷ []))
unbinds h to line (syntax.Free place name) = alone (tree.Do to line op.FreeDel (of_temp (free_at h place) ∷ argument.Name name ∷ []))
unbinds h to line (syntax.Module name) = alone (tree.Do to line op.DelGlobal (argument.Name name ∷ []))
unbinds h to line (syntax.InClass name) = alone (tree.Do to line op.SpaceDel (of_temp (local_at h 0) ∷ argument.Name name ∷ []))

-- the block carries what has this row and gives no value that counts, as a deletion
pub record CarriesQuiet (h : Homes) (low high : ℕ) (r : python.L → python.R) (b : tree.Block) : Type 0 where
  pub starts : behind h ≤ low
  pub grows : low ≤ high
  pub carries : (z : Setting) (fs : Facts) → Outside h low high fs → Carried z h 0 (λ v. fs) fs (r (source z)) (nodes.block_row (target z) b)

abbrev pub CarriesDeletion : Homes → ℕ → ℕ → syntax.Target → tree.Block → Type 0
CarriesDeletion h low high x b = CarriesQuiet h low high (λ l. delete l x) b

abbrev pub CarriesDeletions : Homes → ℕ → ℕ → syntax.Targets → tree.Block → Type 0
CarriesDeletions h low high xs b = CarriesQuiet h low high (λ l. delete_each l xs) b
