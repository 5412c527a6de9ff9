use Rattle.std.proofs.Common.{arith}
use Rattle.reform_homes.proofs.Temps.{place_within}
use Rattle.reform_homes.proofs.place.Place.own_cell.Goals as goal

pub overflow_add-result-2 : goal.overflow_add-result-2
overflow_add-result-2 c = omega (arith, c.self.invariant.room, place_within c.self.inside.own c.args.name.now, c.len.ensures, c.len-2.ensures, c.place.ensures)
