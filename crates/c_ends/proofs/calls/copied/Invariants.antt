use Rattle.std.proofs.Common.{◌≡◌, take}
use Rattle.c_ends.proofs.calls.copied.Given as goal

abbrev pub invariant-loop-value : goal.invariant-loop-value
invariant-loop-value l = l.items ≡ take l.value-index l.values
