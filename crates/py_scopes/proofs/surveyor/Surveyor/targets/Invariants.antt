use Rattle.std.proofs.Common.{◌≡◌, map, drop}
use Rattle.py_scopes.specs.Survey as spec
use Rattle.py_scopes.proofs.surveyor.Surveyor.targets.Given as goal

abbrev pub invariant-loop-x : goal.invariant-loop-x
invariant-loop-x l = spec.all (map spec.target l.xs) l.place l.fn.self.survey ≡ spec.all (map spec.target (drop l.x-index l.xs)) l.place l.self.survey
