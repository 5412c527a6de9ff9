use Rattle.std.proofs.Common.{◌≡◌, ◌++◌, drop}
use Rattle.reform_homes.specs.Gaining.{texts}
use Rattle.reform_homes.specs.Places.{is_own}
use Rattle.reform_homes.proofs.locals.own_names.Given as goal

abbrev pub invariant-loop-name : goal.invariant-loop-name
invariant-loop-name l = l.own ++ texts (is_own l.kind l.this l.captured) (drop l.name-index l.names) ≡ texts (is_own l.kind l.this l.captured) l.names
