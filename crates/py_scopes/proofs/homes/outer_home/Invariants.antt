use Rattle.std.proofs.Common.{◌≡◌, ◌-◌}
use Rattle.py_scopes.specs.Homes as spec
use Rattle.py_scopes.proofs.homes.outer_home.Given as goal

abbrev pub invariant-loop-turn : goal.invariant-loop-turn
invariant-loop-turn l = spec.outer_home l.survey l.name l.scope ≡ spec.first_home l.survey l.name (spec.seen_within l.survey (l._turn-end - l._turn) l.at)
