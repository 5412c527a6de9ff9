use Rattle.std.proofs.Common.{◌≡◌, ◌++◌, length, reverse}
use Rattle.c_machine.proofs.starting.codes_of.Given as goal

abbrev pub invariant-loop-header : goal.invariant-loop-header
invariant-loop-header l = l.codes ++ reverse l.backwards.items ≡ reverse l.fn.backwards.items

abbrev pub decreases-loop-header : goal.decreases-loop-header
decreases-loop-header l = length l.backwards.items
