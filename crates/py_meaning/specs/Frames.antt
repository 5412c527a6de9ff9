-- Frames of running codes, and the names in them.
use Rattle.std.specs.Prelude.{ℕ, List, [], ◌∷◌, ◌++◌, Option, Some, None, slice_get, slice_set}
use Rattle.nu_value.specs.declared.value.Value.{Value}
use Rattle.nu_value.specs.declared.value.Value.TheVariants as value
use Rattle.op_forms.specs.declared.op.Op.TheVariants as op
use Rattle.nu_rows.specs.Rows.{End, Next, Undefined, Row, Act}
use Rattle.nu_rows.specs.Words.{then_value, quiet, ends_with}
use Rattle.nu_calls.specs.Calls.{State, state_of, Language, operate}
use Rattle.py_meaning.specs.Syntax as syntax

-- a frame: the number of its code; its local variables, some Unset; its own cells, as far as they are made; the cells that it has of
-- enclosing functions; and what a `yield from` carries from turn to turn
pub record Frame : Type 0 where
  pub code : ℕ
  pub locals : List Value
  pub owns : List Value
  pub frees : List Value
  pub carried : Value

-- what costs one of the bound: the body of a code, and a further turn of a loop, with what the loop keeps and, in a statement, the
-- exception of the `except` clause around it
pub data Item : Type 0 where
  OfCode : (code : ℕ) → Item
  WhileTurn : (line : ℕ) (test : syntax.Expression) (body : syntax.Block) (handled : Option ℕ) → Item
  ForTurn : (line : ℕ) (iterator : Value) (target : syntax.Target) (body : syntax.Block) (handled : Option ℕ) → Item
  CollectTurn : (line : ℕ) (into iterator : Value) (target : syntax.Target) (turns : syntax.Turns) → Item
  DelegateTurn : (line : ℕ) (iterator : Value) → Item

abbrev pub R : Type 0
R = Row (State Frame) Item

abbrev pub L : Type 0
L = Language Frame Item

-- the value at a place; Unset where there is none
abbrev pub value_or_unset : Option Value → Value
value_or_unset (Some v) = v
value_or_unset None = value.Unset

abbrev pub at : List Value → ℕ → Value
at vs place = value_or_unset (slice_get vs place)

-- something of the frame
abbrev pub reads : (Frame → Value) → R
reads f = Act (λ s. record { out = []; state = s; end = Next (f s.frame) })

-- a value that is yielded; nothing is said of Unset
abbrev pub used : Value → End
used value.Unset = Undefined
used v = Next v

abbrev pub uses : Value → (Value → R) → R
uses v k = then_value (ends_with (used v)) k

-- the frame is another
abbrev pub changes : (Frame → Frame) → R
changes f = Act (λ s. quiet (state_of (f s.frame) s.around))

abbrev pub with_local : ℕ → Value → Frame → Frame
with_local place v f = record f { locals = slice_set f.locals place v }

abbrev pub with_own : Value → Frame → Frame
with_own cell f = record f { owns = f.owns ++ cell ∷ [] }

abbrev pub with_carried : Value → Frame → Frame
with_carried v f = record f { carried = v }

-- a name as an argument of an operation
abbrev pub text : List ℕ → Value
text name = value.Str name

-- the names of a class whose block runs are its one parameter
abbrev pub class_names : R
class_names = reads (λ f. at f.locals 0)

-- a name is read (reference, section 6.2.1)
abbrev pub load : L → ℕ → syntax.Home → R
load l line (syntax.Local place name) = then_value (reads (λ f. at f.locals place)) (λ v. operate l line op.Local (v ∷ text name ∷ []))
load l line (syntax.Own place name) = then_value (reads (λ f. at f.owns place)) (λ c. operate l line op.CellGet (c ∷ text name ∷ []))
load l line (syntax.Free place name) = then_value (reads (λ f. at f.frees place)) (λ c. operate l line op.FreeGet (c ∷ text name ∷ []))
load l line (syntax.Module name) = operate l line op.Global (text name ∷ [])
load l line (syntax.InClass name) = then_value class_names (λ names. operate l line op.SpaceGet (names ∷ text name ∷ []))

-- a name is bound (reference, section 4.2.1)
abbrev pub store : L → ℕ → syntax.Home → Value → R
store l line (syntax.Local place name) v = changes (with_local place v)
store l line (syntax.Own place name) v = then_value (reads (λ f. at f.owns place)) (λ c. operate l line op.CellSet (c ∷ v ∷ []))
store l line (syntax.Free place name) v = then_value (reads (λ f. at f.frees place)) (λ c. operate l line op.CellSet (c ∷ v ∷ []))
store l line (syntax.Module name) v = operate l line op.SetGlobal (text name ∷ v ∷ [])
store l line (syntax.InClass name) v = then_value class_names (λ names. operate l line op.SpaceSet (names ∷ text name ∷ v ∷ []))

-- a name is unbound (reference, section 7.5)
abbrev pub unbind : L → ℕ → syntax.Home → R
unbind l line (syntax.Local place name) = then_value (load l line (syntax.Local place name)) (λ v. changes (with_local place value.Unset))
unbind l line (syntax.Own place name) = then_value (reads (λ f. at f.owns place)) (λ c. operate l line op.CellDel (c ∷ text name ∷ []))
unbind l line (syntax.Free place name) = then_value (reads (λ f. at f.frees place)) (λ c. operate l line op.FreeDel (c ∷ text name ∷ []))
unbind l line (syntax.Module name) = operate l line op.DelGlobal (text name ∷ [])
unbind l line (syntax.InClass name) = then_value class_names (λ names. operate l line op.SpaceDel (names ∷ text name ∷ []))

-- a cell that an inner function gets
abbrev pub cell_of : Frame → syntax.CellPlace → Value
cell_of f (syntax.OwnCell place) = at f.owns place
cell_of f (syntax.FreeCell place) = at f.frees place
