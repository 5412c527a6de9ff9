-- Targets whose parts are made, as the laws read them.
use Rattle.std.specs.Prelude.{ℕ, List, [], ◌∷◌}
use Rattle.carried_codes.specs.Places as places
use Rattle.reform_blocks.specs.Parts.{carrier}
use Rattle.reform_names.specs.Homes.{seat_of}
use Rattle.reform_targets.specs.declared.place.Place.{Place, Name, Attribute, Index, Each', Starred', Nothing, Row_of-Place, end_of-Place, more_of-Place}

abbrev mutual
  pub place_of : Place → places.Place
  place_of (Name line home) = places.Name line (seat_of home)
  place_of (Attribute line part name) = places.Attribute line (carrier part) name
  place_of (Index line part at) = places.Index line (carrier part) (carrier at)
  place_of (Each' line m row) = places.Each line (row_places row)
  place_of (Starred' line m before u star n behind) = places.Starred line (row_places before) (place_of star) (row_places behind)
  place_of Nothing = places.Nothing

  pub row_places : {m : _} → Row_of-Place m → places.Places
  row_places end_of-Place = places.NoPlace
  row_places (more_of-Place x xs) = places.Also (place_of x) (row_places xs)

abbrev pub places_of : List Place → places.Places
places_of [] = places.NoPlace
places_of (x ∷ xs) = places.Also (place_of x) (places_of xs)
