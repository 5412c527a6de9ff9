use Rattle.std.proofs.Common.{◌≡◌, map, drop}
use Rattle.py_scopes.specs.Survey as spec
use Rattle.py_scopes.specs.declared.survey.What.TheVariants as what
use Rattle.py_scopes.proofs.surveyor.Surveyor.globals.Given as goal

abbrev pub invariant-loop-declared : goal.invariant-loop-declared
invariant-loop-declared l = spec.all (map (spec.declared what.Global) l.names) l.place l.fn.self.survey ≡ spec.all (map (spec.declared what.Global) (drop l.declared-index l.names)) l.place l.self.survey
