-- How operations end, and the objects after them.
use Rattle.std.specs.Prelude.{ℕ, List, [], Option, Some, slice_set}
use Rattle.nu_run.specs.declared.StopKind.TheVariants as stop
use Rattle.nu_value.specs.declared.object.Object.{Object}
use Rattle.nu_value.specs.declared.object.Object.TheVariants as object
use Rattle.nu_value.specs.declared.value.Value.TheVariants as value
use Rattle.nu_value.specs.Names.{NameList}
use Rattle.op_forms.specs.declared.end.OpEnd.{OpEnd}
use Rattle.op_forms.specs.declared.end.OpEnd.TheVariants as opend
use Rattle.op_forms.specs.declared.world.World.{World}

-- how a row ends, and the objects after it
pub record Answer : Type 0 where
  pub end : OpEnd
  pub heap : List Object

-- no object is made or changed
abbrev pub keeps : List Object → OpEnd → Answer
keeps h e = record { end = e; heap = h }

-- what isn't there yet
abbrev pub unbuilt : OpEnd
unbuilt = opend.Stop stop.Unbuilt

abbrev pub later : List Object → Answer
later h = keeps h unbuilt

-- an object in place of another
abbrev pub changed : List Object → ℕ → Object → Answer
changed h n o = record { end = opend.Give value.None; heap = slice_set h n o }

abbrev pub names_of : Option Object → NameList
names_of (Some (object.Space names)) = names
names_of other = []

-- the world after an operation
abbrev pub after : World → Answer → World
after w answer = record w { heap = answer.heap }
