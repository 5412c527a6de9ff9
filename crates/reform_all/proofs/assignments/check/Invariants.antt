use Rattle.std.proofs.Common.{◌≡◌, drop}
use Rattle.reform_all.specs.Assignments.{no_name}
use Rattle.reform_all.proofs.assignments.check.Given as goal

abbrev pub invariant-loop-target : goal.invariant-loop-target
invariant-loop-target l = no_name l.targets ≡ no_name (drop l.target-index l.targets)
