use Rattle.std.proofs.Common.{◌≡◌, List, ◌++◌, drop}
use Rattle.c_meaning.specs.declared.program.Line.{Line}
use Rattle.generator_cut.specs.Cut.{saves}
use Rattle.generator_cut.proofs.pauses.put_saves.Given as goal

abbrev pub invariant-loop-index : goal.invariant-loop-index
invariant-loop-index l = (tail : List Line) → l.out.items ++ saves l.index (drop l.index l.saved) tail ≡ l.initial.out.items ++ saves 0 l.saved tail
