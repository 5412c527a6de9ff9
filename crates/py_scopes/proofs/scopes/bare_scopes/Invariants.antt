use Rattle.std.proofs.Common.{◌≡◌, map, take}
use Rattle.py_scopes.specs.Filling as filling
use Rattle.py_scopes.proofs.scopes.bare_scopes.Given as goal

abbrev pub invariant-loop-scope : goal.invariant-loop-scope
invariant-loop-scope l = l.scopes.items ≡ map filling.bare (take l.scope-index l.survey.scopes)
