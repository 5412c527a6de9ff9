use Rattle.std.proofs.Common.{◌≡◌, ◌-◌}
use Rattle.py_grammar.specs.Grammar.{Parts}
use Rattle.py_grammar.specs.Parse.{tail_from, parse, argument}
use Rattle.py_expr.proofs.grammar.Grammar.arguments_tail.Given as goal

abbrev pub invariant-loop-turn : goal.invariant-loop-turn
invariant-loop-turn g l = tail_from (parse l.self.nested.fuel) l.self.nested.fuel Parts.arguments (argument (parse l.self.nested.fuel) l.self.nested.fuel) l.depth l.self.nested.fuel l.fn.list l.fn.tokens ≡ tail_from (parse l.self.nested.fuel) l.self.nested.fuel Parts.arguments (argument (parse l.self.nested.fuel) l.self.nested.fuel) l.depth (l._turn-end - l._turn) l.list l.tokens
