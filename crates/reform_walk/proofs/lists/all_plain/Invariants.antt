use Rattle.std.proofs.Common.{◌≡◌, map, drop}
use Rattle.py_meaning.specs.Resolved as meaning
use Rattle.py_scopes.specs.Parts as parts
use Rattle.walk_laws.specs.Expressions as spec
use Rattle.reform_walk.proofs.lists.all_plain.Given as goal

abbrev pub invariant-loop-x : goal.invariant-loop-x
invariant-loop-x l = meaning.all_plain (map (parts.argument_of spec.expr) l.xs) ≡ meaning.all_plain (map (parts.argument_of spec.expr) (drop l.x-index l.xs))
