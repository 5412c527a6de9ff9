use Rattle.std.proofs.Common.{◌≡◌, length}
use Rattle.nu_value.specs.Classes.{outward, first_named}
use Rattle.rt_class.proofs.lookups.found_from.Given as goal

abbrev pub invariant-loop-room : goal.invariant-loop-room
invariant-loop-room l =
    first_named l.heap (outward l.room l.heap l.next) l.name ≡ first_named l.heap (outward (length l.heap) l.heap l.fn.class) l.name

abbrev pub decreases-loop-room : goal.decreases-loop-room
decreases-loop-room l = l.room
