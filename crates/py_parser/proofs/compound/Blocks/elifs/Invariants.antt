use Rattle.std.proofs.Common.{◌≡◌, ◌-◌}
use Rattle.py_statements.specs.Parse.{elifs_from, parse}
use Rattle.py_parser.proofs.compound.Blocks.elifs.Given as goal

abbrev pub invariant-loop-turn : goal.invariant-loop-turn
invariant-loop-turn g l = elifs_from (parse l.self.fuel) l.depth l.turns l.fn.list l.fn.tokens ≡ elifs_from (parse l.self.fuel) l.depth (l.turns - l._turn) l.list l.tokens
