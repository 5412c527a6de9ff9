use Rattle.std.proofs.Common.{◌≡◌, map, take}
use Rattle.py_meaning.specs.Scopes.{cell_for}
use Rattle.carries_names.specs.Functions.{cell_at}
use Rattle.walk_laws.specs.Contexts.{homes_in}
use Rattle.reform_homes.proofs.here.PlaceHere.cells.Given as goal

abbrev pub invariant-loop-name : goal.invariant-loop-name
invariant-loop-name l = l.cells.items ≡ map (cell_at (homes_in l.self)) (map (cell_for l.self.scopes l.self.this) (take l.name-index l.name-items))
