use Rattle.std.proofs.Common.{◌≡◌, map, drop}
use Rattle.py_scopes.specs.Survey as spec
use Rattle.py_scopes.proofs.surveyor.Surveyor.exprs.Given as goal

abbrev pub invariant-loop-x : goal.invariant-loop-x
invariant-loop-x l = spec.values (map spec.expr l.xs) l.place l.fn.self.survey ≡ spec.values (map spec.expr (drop l.x-index l.xs)) l.place l.self.survey
