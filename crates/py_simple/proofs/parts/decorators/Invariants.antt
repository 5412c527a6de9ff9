use Rattle.std.proofs.Common.{◌≡◌, ◌-◌}
use Rattle.py_statements.specs.Parse.{decorators, decorators_from}
use Rattle.py_simple.proofs.parts.decorators.Given as goal

abbrev pub invariant-loop-turn : goal.invariant-loop-turn
invariant-loop-turn l = decorators l.depth l.fn.tokens ≡ decorators_from l.depth (l.turns - l._turn) l.list l.tokens
