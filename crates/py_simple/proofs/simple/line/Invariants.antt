use Rattle.std.proofs.Common.{◌≡◌, ◌-◌}
use Rattle.py_statements.specs.Parse.{one_line, line_from}
use Rattle.py_simple.proofs.simple.line.Given as goal

abbrev pub invariant-loop-turn : goal.invariant-loop-turn
invariant-loop-turn l = one_line l.depth l.fn.list l.fn.tokens ≡ line_from l.depth (l.turns - l._turn) l.list l.tokens
