use Rattle.std.proofs.Common.{◌≡◌, ◌++◌, drop}
use Rattle.reform_homes.specs.Gaining.{texts}
use Rattle.reform_homes.specs.Places.{is_other}
use Rattle.reform_homes.proofs.locals.other_names.Given as goal

abbrev pub invariant-loop-name : goal.invariant-loop-name
invariant-loop-name l = l.other ++ texts (is_other l.kind l.this l.captured l.params) (drop l.name-index l.names) ≡ texts (is_other l.kind l.this l.captured l.params) l.names
