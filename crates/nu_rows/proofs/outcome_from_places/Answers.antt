use Rattle.std.proofs.Common.{refl}
use Rattle.nu_rows.proofs.Places.{from_begin, from_place}
use Rattle.nu_rows.proofs.outcome_from_places.Goals as goal

pub returns : goal.returns
returns g c = record {
  begin = λ rows r p h s n. from_begin rows n r p h s;
  back = λ rows r p q h how s n. from_place rows n r p q h how s;
  item = λ rows i start s n. refl;
}
