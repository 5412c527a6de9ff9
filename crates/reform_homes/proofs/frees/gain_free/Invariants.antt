use Rattle.std.proofs.Common.{◌≡◌, drop}
use Rattle.py_meaning.specs.Scopes.{is_free}
use Rattle.reform_homes.specs.Names.{gained_all}
use Rattle.reform_homes.specs.Gaining.{texts}
use Rattle.reform_homes.proofs.frees.gain_free.Given as goal

abbrev pub invariant-loop-name : goal.invariant-loop-name
invariant-loop-name l = gained_all l.names (texts (is_free l.this) (drop l.name-index l.more)) ≡ gained_all l.initial.names (texts (is_free l.this) l.more)
