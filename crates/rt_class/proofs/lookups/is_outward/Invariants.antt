use Rattle.std.proofs.Common.{◌≡◌, length}
use Rattle.nu_value.specs.Classes.{outward, is_among}
use Rattle.rt_class.proofs.lookups.is_outward.Given as goal

abbrev pub invariant-loop-room : goal.invariant-loop-room
invariant-loop-room l = is_among (outward l.room l.heap l.next) l.class ≡ is_among (outward (length l.heap) l.heap l.fn.from) l.class

abbrev pub decreases-loop-room : goal.decreases-loop-room
decreases-loop-room l = l.room
