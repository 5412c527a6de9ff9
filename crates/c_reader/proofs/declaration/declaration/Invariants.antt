use Rattle.std.proofs.Common.{length}
use Rattle.c_reader.proofs.Declarations.{Declared}
use Rattle.c_reader.proofs.declaration.declaration.Given as goal

abbrev pub invariant-loop-next : goal.invariant-loop-next
invariant-loop-next l = Declared l.text l.registers l.rest

abbrev pub decreases-loop-next : goal.decreases-loop-next
decreases-loop-next l = length l.rest
