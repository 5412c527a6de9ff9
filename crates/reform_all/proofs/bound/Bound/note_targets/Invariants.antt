use Rattle.std.proofs.Common.{drop}
use Rattle.reform_all.specs.Built as built
use Rattle.reform_all.proofs.Gained.{Ahead}
use Rattle.reform_all.proofs.bound.Bound.note_targets.Given as goal

abbrev pub invariant-loop-target : goal.invariant-loop-target
invariant-loop-target l = Ahead l.fn.self l.self (built.all_bound_by l.targets) (built.all_bound_by (drop l.target-index l.targets))
