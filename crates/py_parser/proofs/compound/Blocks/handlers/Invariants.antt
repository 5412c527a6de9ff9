use Rattle.std.proofs.Common.{◌≡◌, ◌-◌}
use Rattle.py_statements.specs.Parse.{handlers_from, parse}
use Rattle.py_parser.proofs.compound.Blocks.handlers.Given as goal

abbrev pub invariant-loop-turn : goal.invariant-loop-turn
invariant-loop-turn g l = handlers_from (parse l.self.fuel) l.depth l.turns l.fn.list l.fn.tokens ≡ handlers_from (parse l.self.fuel) l.depth (l.turns - l._turn) l.list l.tokens
