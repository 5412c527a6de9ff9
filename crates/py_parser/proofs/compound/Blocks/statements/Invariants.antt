use Rattle.std.proofs.Common.{◌≡◌, ◌-◌}
use Rattle.py_statements.specs.Parse.{statements_from, parse}
use Rattle.py_parser.proofs.compound.Blocks.statements.Given as goal

abbrev pub invariant-loop-turn : goal.invariant-loop-turn
invariant-loop-turn g l = statements_from (parse l.self.fuel) l.depth l.inner l.turns l.fn.list l.fn.tokens ≡ statements_from (parse l.self.fuel) l.depth l.inner (l.turns - l._turn) l.list l.tokens
