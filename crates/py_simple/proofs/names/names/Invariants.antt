use Rattle.std.proofs.Common.{◌≡◌, ◌-◌}
use Rattle.py_statements.specs.Parse.{names, names_from}
use Rattle.py_simple.proofs.names.names.Given as goal

abbrev pub invariant-loop-turn : goal.invariant-loop-turn
invariant-loop-turn l = names l.fn.tokens ≡ names_from (l.turns - l._turn) l.list l.tokens
