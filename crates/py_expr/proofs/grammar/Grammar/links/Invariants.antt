use Rattle.std.proofs.Common.{◌≡◌, ◌-◌}
use Rattle.py_grammar.specs.Grammar.{Parts}
use Rattle.py_grammar.specs.Parse.{run_from, parse, link}
use Rattle.py_expr.proofs.grammar.Grammar.links.Given as goal

abbrev pub invariant-loop-turn : goal.invariant-loop-turn
invariant-loop-turn g l = run_from (parse l.self.nested.fuel) l.self.nested.fuel Parts.links (link (parse l.self.nested.fuel) l.self.nested.fuel) l.depth l.self.nested.fuel l.fn.list l.fn.tokens ≡ run_from (parse l.self.nested.fuel) l.self.nested.fuel Parts.links (link (parse l.self.nested.fuel) l.self.nested.fuel) l.depth (l._turn-end - l._turn) l.list l.tokens
