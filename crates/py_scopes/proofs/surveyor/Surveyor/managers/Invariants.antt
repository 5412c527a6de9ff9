use Rattle.std.proofs.Common.{◌≡◌, map, drop}
use Rattle.py_scopes.specs.Survey as spec
use Rattle.py_scopes.proofs.surveyor.Surveyor.managers.Given as goal

abbrev pub invariant-loop-manager : goal.invariant-loop-manager
invariant-loop-manager l = spec.all (map spec.manager_adds l.managers) l.place l.fn.self.survey ≡ spec.all (map spec.manager_adds (drop l.manager-index l.managers)) l.place l.self.survey
