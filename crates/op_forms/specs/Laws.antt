-- Laws of doings.
use Rattle.std.specs.Prelude.{List}
use Rattle.nu_value.specs.declared.object.Object.{Object}
use Rattle.op_forms.specs.declared.world.World.{World}
use Rattle.op_forms.specs.Answers.{after}
use Rattle.op_forms.specs.Doing.{Doing, heap_after, answer}
use Rattle.op_forms.specs.Right.{Grows, within, Closed, Right}
use Rattle.op_forms.specs.Sound.{Sound, EndIn}

-- what uses only values that are there, in any heap to which the world may grow, keeps it sound
abbrev pub DoingsKeepSound : Type 0
DoingsKeepSound =
    (w : World) (d : Doing) → Sound w → ((more : List Object) → Grows w.heap more → Closed (within more) w → Right (within more) w d)
    → Sound (after w (answer w d)) × EndIn (heap_after w.heap d) d.end
