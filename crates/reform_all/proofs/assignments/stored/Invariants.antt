use Rattle.std.proofs.Common.{drop}
use Rattle.reform_all.proofs.Assigns.{Stores}
use Rattle.reform_all.proofs.assignments.stored.Given as goal

abbrev pub invariant-loop-target : goal.invariant-loop-target
invariant-loop-target l = Stores l.targets (drop l.target-index l.targets) l.value l.fn.temps l.temps l.block
