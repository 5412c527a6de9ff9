use Rattle.std.proofs.Common.{◌≡◌, ◌-◌}
use Rattle.nu_value.specs.Classes.{is_among, outward}
use Rattle.c_ends.proofs.generators.is_under.Given as goal

abbrev pub invariant-loop-step : goal.invariant-loop-step
invariant-loop-step l = is_among (outward l.room l.heap l.fn.from) l.class ≡ is_among (outward (l.room - l.step) l.heap l.at) l.class
