use Rattle.std.proofs.Common.{◌≡◌, ◌-◌}
use Rattle.py_grammar.specs.Parse.{climb, parse}
use Rattle.py_expr.proofs.grammar.Grammar.climb.Given as goal

abbrev pub invariant-loop-turn : goal.invariant-loop-turn
invariant-loop-turn g l = climb (parse l.self.nested.fuel) l.self.nested.fuel l.least l.depth l.depth l.line l.fn.left l.fn.tokens ≡ climb (parse l.self.nested.fuel) l.self.nested.fuel l.least l.depth (l.depth - l._turn) l.line l.left l.tokens
