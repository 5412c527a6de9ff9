-- Where code says that names live, as the laws read it.
use Rattle.carried_codes.specs.Seats as seats
use Rattle.reform_names.specs.declared.home.Home.{Home}
use Rattle.reform_names.specs.declared.home.Home.TheVariants as home

abbrev pub seat_of : Home → seats.Seat
seat_of (home.Local at name) = seats.Local at name
seat_of (home.Own at name) = seats.Own at name
seat_of (home.Free at name) = seats.Free at name
seat_of (home.Module name) = seats.Module name
seat_of (home.Space at name) = seats.Space at name
