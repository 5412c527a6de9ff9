use Rattle.std.proofs.Common.{◌≡◌, take, drop}
use Rattle.py_scopes.specs.Passes as passes
use Rattle.py_scopes.specs.Rules as spec
use Rattle.py_scopes.proofs.rules.first_unnamed.Given as goal

abbrev pub invariant-loop-site : goal.invariant-loop-site
invariant-loop-site l =
    passes.first_fault spec.Name l.survey
    ≡ passes.first_at_fault (spec.fault spec.Name l.survey) (take l.site-index l.survey.sites) (drop l.site-index l.survey.sites)
