-- What an operation does: at most one object is changed, then objects are made, and it ends.
use Rattle.std.specs.Prelude.{◌≡◌, ℕ, ℤ, List, [], ◌∷◌, ◌++◌, Option, Some, None, true, false, length, slice_get, slice_set}
use Rattle.nu_value.specs.declared.value.Value.{Value}
use Rattle.nu_value.specs.declared.value.Value.TheVariants as value
use Rattle.nu_value.specs.declared.object.Object.{Object}
use Rattle.nu_value.specs.declared.object.Object.TheVariants as object
use Rattle.nu_value.specs.declared.key.Atom.{Atom}
use Rattle.nu_value.specs.Names.{with_name, without_name}
use Rattle.nu_value.specs.Pairs.{PairList, with_pair}
use Rattle.op_forms.specs.declared.end.OpEnd.{OpEnd}
use Rattle.op_forms.specs.declared.end.OpEnd.TheVariants as opend
use Rattle.op_forms.specs.declared.world.World.{World}
use Rattle.op_forms.specs.Answers.{Answer, unbuilt, after}

-- how an object is changed: its kind stays, and what has no such part stays whole
pub data Change : Type 0 where
  -- the items of a list
  Fill : (items : List Value) → Change
  -- a name of a space, an instance, an exception or a script's class gets a value, or goes
  Bind : (name : List ℕ) (v : Value) → Change
  Unbind : (name : List ℕ) → Change
  -- the content of a cell
  Hold : (v : Value) → Change
  -- the place of an iterator, and the size of what it is over; or it is over
  Move : (place : ℤ) (size : ℕ) → Change
  Finish : Change
  -- a key of a dict maps to a value; or a dict has other pairs
  Put : (key : List Atom) (given v : Value) → Change
  Fit : (pairs : PairList) → Change

abbrev pub changed_by : Change → Object → Object
changed_by (Fill items) (object.List old) = object.List items
changed_by (Bind name v) (object.Space names) = object.Space (with_name names name v)
changed_by (Bind name v) (object.Instance class fields) = object.Instance class (with_name fields name v)
changed_by (Bind name v) (object.Exception class args entries fields cause) =
    object.Exception class args entries (with_name fields name v) cause
changed_by (Bind name v) (object.Class own base names false) = object.Class own base (with_name names name v) false
changed_by (Unbind name) (object.Space names) = object.Space (without_name names name)
changed_by (Unbind name) (object.Instance class fields) = object.Instance class (without_name fields name)
changed_by (Unbind name) (object.Exception class args entries fields cause) =
    object.Exception class args entries (without_name fields name) cause
changed_by (Unbind name) (object.Class own base names false) = object.Class own base (without_name names name) false
changed_by (Hold v) (object.Cell old) = object.Cell v
changed_by (Move place size) (object.Iterator over old older over_now) = object.Iterator over place size over_now
changed_by Finish (object.Iterator over place size over_now) = object.Iterator over place size true
changed_by (Put key given v) (object.Dict pairs) = object.Dict (with_pair pairs key given v)
changed_by (Fit pairs) (object.Dict old) = object.Dict pairs
changed_by c o = o

pub record Doing : Type 0 where
  pub end : OpEnd
  pub set : Option (ℕ × Change)
  pub made : List Object

-- where no object of this number is, nothing changes
abbrev pub put_at : List Object → ℕ → Change → Option Object → List Object
put_at h n c None = h
put_at h n c (Some o) = slice_set h n (changed_by c o)

abbrev pub set_in : List Object → Option (ℕ × Change) → List Object
set_in h None = h
set_in h (Some p) = put_at h p.0 p.1 (slice_get h p.0)

-- objects and new ones; none is no change at all
abbrev pub grown : List Object → List Object → List Object
grown h [] = h
grown h (o ∷ os) = h ++ o ∷ os

-- the objects after it
abbrev pub heap_after : List Object → Doing → List Object
heap_after h d = grown (set_in h d.set) d.made

abbrev pub answer : World → Doing → Answer
answer w d = record { end = d.end; heap = heap_after w.heap d }

-- The usual ones

abbrev pub ends : OpEnd → Doing
ends e = record { end = e; set = None; made = [] }

-- what isn't there yet
abbrev pub nothing : Doing
nothing = ends unbuilt

abbrev pub gives : Value → Doing
gives v = ends (opend.Give v)

-- an object is changed, and None given
abbrev pub changes : ℕ → Change → Doing
changes n c = record { end = opend.Give value.None; set = Some (n, c); made = [] }

-- an object is changed, and a value given
abbrev pub changes_giving : ℕ → Change → Value → Doing
changes_giving n c v = record { end = opend.Give v; set = Some (n, c); made = [] }

-- a new object is given
abbrev pub makes : List Object → Object → Doing
makes h o = record { end = opend.Give (value.Obj (length h)); set = None; made = o ∷ [] }

-- For code

-- it ended so, and left these objects
abbrev pub Did : Doing → List Object → List Object → OpEnd → Type 0
Did d old new e = (e ≡ d.end) × (new ≡ heap_after old d)

-- the same of worlds
abbrev pub DidIn : Doing → World → World → OpEnd → Type 0
DidIn d old new e = (e ≡ d.end) × (new ≡ after old (answer old d))

-- a value was given, and nothing else done
abbrev pub given : List Object → Value → Answer
given h v = record { end = opend.Give v; heap = h }
