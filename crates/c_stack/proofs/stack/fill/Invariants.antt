use Rattle.std.proofs.Common.{◌≡◌, None, replicate}
use Rattle.c_stack.proofs.stack.fill.Given as goal

abbrev pub invariant-loop-made : goal.invariant-loop-made
invariant-loop-made l = l.registers ≡ replicate l.made None
