use Rattle.std.proofs.Common.{◌≡◌, map, drop}
use Rattle.std.specs.List.{list_any}
use Rattle.py_meaning.specs.Resolved as meaning
use Rattle.py_scopes.specs.Parts as parts
use Rattle.walk_laws.specs.Expressions as spec
use Rattle.reform_walk.proofs.lists.has_star.Given as goal

abbrev pub invariant-loop-x : goal.invariant-loop-x
invariant-loop-x l = list_any meaning.is_star (map (parts.item_of spec.expr) l.xs) ≡ list_any meaning.is_star (map (parts.item_of spec.expr) (drop l.x-index l.xs))
