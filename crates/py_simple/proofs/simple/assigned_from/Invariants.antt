use Rattle.std.proofs.Common.{◌≡◌, ◌-◌}
use Rattle.py_statements.specs.Parse.{assigned_from}
use Rattle.py_simple.proofs.simple.assigned_from.Given as goal

abbrev pub invariant-loop-turn : goal.invariant-loop-turn
invariant-loop-turn l = assigned_from l.line l.depth l.turns l.fn.targets l.fn.tokens ≡ assigned_from l.line l.depth (l.turns - l._turn) l.targets l.tokens
