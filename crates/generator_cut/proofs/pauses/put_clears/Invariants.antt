use Rattle.std.proofs.Common.{◌≡◌, List, ◌++◌, drop}
use Rattle.c_meaning.specs.declared.program.Line.{Line}
use Rattle.generator_cut.specs.Cut.{clears}
use Rattle.generator_cut.proofs.pauses.put_clears.Given as goal

abbrev pub invariant-loop-register : goal.invariant-loop-register
invariant-loop-register l = (tail : List Line) → l.out.items ++ clears (drop l.register-index l.cleared) tail ≡ l.initial.out.items ++ clears l.cleared tail
