use Rattle.std.proofs.Common.{arith}
use Rattle.reform_homes.proofs.Temps.{place_within}
use Rattle.reform_homes.proofs.place.Place.free_cell.Goals as goal

pub overflow_add-result : goal.overflow_add-result
overflow_add-result c = omega (arith, c.self.invariant.room, place_within c.self.inside.free.now c.args.name.now, c.len.ensures, c.place.ensures)
