use Rattle.std.proofs.Common.{◌≡◌, [], take, drop}
use Rattle.py_scopes.specs.Passes as passes
use Rattle.py_scopes.proofs.rules.first_alone.Given as goal

abbrev pub invariant-loop-site : goal.invariant-loop-site
invariant-loop-site l =
    passes.first_at_fault (λ before site. passes.breaks l.rule l.survey site) [] l.survey.sites
    ≡ passes.first_at_fault (λ before site. passes.breaks l.rule l.survey site) (take l.site-index l.survey.sites) (drop l.site-index l.survey.sites)
