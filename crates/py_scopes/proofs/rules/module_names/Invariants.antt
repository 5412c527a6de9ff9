use Rattle.std.proofs.Common.{◌≡◌, ℕ, List, take}
use Rattle.std.specs.List.{list_any}
use Rattle.py_scopes.specs.Rules as spec
use Rattle.py_scopes.specs.Seen as sees
use Rattle.py_scopes.proofs.rules.module_names.Given as goal

abbrev pub invariant-loop-site : goal.invariant-loop-site
invariant-loop-site l =
    (x : List ℕ) → sees.has l.names.keys 0 x ≡ list_any (spec.binds_in_module l.survey x) (take l.site-index l.survey.sites)
