use Rattle.std.proofs.Common.{◌≡◌, ◌-◌}
use Rattle.py_statements.specs.Parse.{managers, managers_from}
use Rattle.py_simple.proofs.parts.managers.Given as goal

abbrev pub invariant-loop-turn : goal.invariant-loop-turn
invariant-loop-turn l = managers l.depth l.fn.tokens ≡ managers_from l.depth (l.turns - l._turn) l.list l.tokens
