use Rattle.std.proofs.Common.{◌-◌}
use Rattle.py_meaning.specs.Scopes.{is_inside}
use Rattle.reform_homes.specs.Gaining.{Rest, passed, outward}
use Rattle.reform_homes.proofs.frees.spread.Given as goal

abbrev pub invariant-loop-turn : goal.invariant-loop-turn
invariant-loop-turn l =
    Rest l.initial.lists.items l.lists.items (λ a. passed l.scope l.names a (is_inside l.scopes a l.scope)) (λ a. passed l.scope l.names a (outward (l.turns - l._turn) l.scopes a l.at))
