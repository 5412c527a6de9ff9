-- Where names are among the temporaries of a code, and the statements that read, bind and unbind them there.
use Rattle.std.specs.Prelude.{ℕ, List, [], ◌∷◌}
use Rattle.op_forms.specs.declared.op.Op.TheVariants as op
use Rattle.code_forms.specs.declared.operand.Argument.TheVariants as argument
use Rattle.code_forms.specs.declared.operand.Operand.{Operand}
use Rattle.node_tree.specs.Blocks.{alone, of_temp}
use Rattle.node_tree.specs.Blocks as tree
use Rattle.py_meaning.specs.Syntax as syntax
use Rattle.carries_base.specs.Frames.{Homes, local_at, own_at, free_at}

-- a local variable, a cell of the frame, a cell of an enclosing function, or the names of a class, each in a temporary; or a name of the
-- module
pub data Seat : Type 0 where
  Local : (at : ℕ) (name : List ℕ) → Seat
  Own : (at : ℕ) (name : List ℕ) → Seat
  Free : (at : ℕ) (name : List ℕ) → Seat
  Module : (name : List ℕ) → Seat
  Space : (at : ℕ) (name : List ℕ) → Seat

abbrev pub seat : Homes → syntax.Home → Seat
seat h (syntax.Local place name) = Local (local_at h place) name
seat h (syntax.Own place name) = Own (own_at h place) name
seat h (syntax.Free place name) = Free (free_at h place) name
seat h (syntax.Module name) = Module name
seat h (syntax.InClass name) = Space (local_at h 0) name

abbrev pub reads : ℕ → ℕ → Seat → tree.Form
reads to line (Local at name) = tree.Do to line op.Local (of_temp at ∷ argument.Name name ∷ [])
reads to line (Own at name) = tree.Do to line op.CellGet (of_temp at ∷ argument.Name name ∷ [])
reads to line (Free at name) = tree.Do to line op.FreeGet (of_temp at ∷ argument.Name name ∷ [])
reads to line (Module name) = tree.Do to line op.Global (argument.Name name ∷ [])
reads to line (Space at name) = tree.Do to line op.SpaceGet (of_temp at ∷ argument.Name name ∷ [])

-- bound to what an operand holds
abbrev pub stores : ℕ → ℕ → Seat → Operand → tree.Form
stores to line (Local at name) o = tree.puts at o
stores to line (Own at name) o = tree.Do to line op.CellSet (of_temp at ∷ argument.Value o ∷ [])
stores to line (Free at name) o = tree.Do to line op.CellSet (of_temp at ∷ argument.Value o ∷ [])
stores to line (Module name) o = tree.Do to line op.SetGlobal (argument.Name name ∷ argument.Value o ∷ [])
stores to line (Space at name) o = tree.Do to line op.SpaceSet (of_temp at ∷ argument.Name name ∷ argument.Value o ∷ [])

-- a local variable is read before it is unbound
abbrev pub unbinds : ℕ → ℕ → Seat → tree.Block
unbinds to line (Local at name) = tree.Follow (tree.Do to line op.Local (of_temp at ∷ argument.Name name ∷ [])) (alone (tree.Unset at))
unbinds to line (Own at name) = alone (tree.Do to line op.CellDel (of_temp at ∷ argument.Name name ∷ []))
unbinds to line (Free at name) = alone (tree.Do to line op.FreeDel (of_temp at ∷ argument.Name name ∷ []))
unbinds to line (Module name) = alone (tree.Do to line op.DelGlobal (argument.Name name ∷ []))
unbinds to line (Space at name) = alone (tree.Do to line op.SpaceDel (of_temp at ∷ argument.Name name ∷ []))
