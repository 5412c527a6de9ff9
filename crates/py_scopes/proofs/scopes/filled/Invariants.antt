use Rattle.std.proofs.Common.{◌≡◌, take}
use Rattle.py_scopes.specs.Resolve as spec
use Rattle.py_scopes.specs.Rules.{variable}
use Rattle.py_scopes.specs.Seen.{Lists}
use Rattle.py_scopes.proofs.scopes.filled.Given as goal

abbrev pub invariant-loop-site : goal.invariant-loop-site
invariant-loop-site l = record {
  scopes : l.scopes.items ≡ spec.filled l.survey (take l.site-index l.survey.sites) 0 l.survey.scopes;
  named : Lists l.named.keys variable (take l.site-index l.survey.sites);
}
