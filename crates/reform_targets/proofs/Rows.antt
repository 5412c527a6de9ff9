-- Targets with targets in them, by the lists that code holds.
use mathlib.Core.Former.{Count}
use Rattle.std.proofs.Common.{◌≡◌, ℕ, Vec, Global, refl, ap, ◌∙◌}
use Rattle.std.specs.declared.boxed.Box.{Box}
use Rattle.carried_codes.specs.Places as places
use Rattle.reform_targets.specs.declared.place.Place.{Place, Each, Each', Starred, Row_of-Place, end_of-Place, more_of-Place, items-the_row-Place, items_hidden-the_row-Place-0}
use Rattle.reform_targets.specs.Places.{place_of, row_places, places_of}

row_is : (m : _) (row : Row_of-Place m) → row_places row ≡ places_of (items-the_row-Place m row)
row_is m end_of-Place = refl
row_is m (more_of-Place x xs) = ap (λ ps. places.Also (place_of x) ps) (row_is _ xs)

abbrev row_of : Place → (m : Count) × Row_of-Place m
row_of (Each' _ _ row) = (_, row)
row_of _ = (_, end_of-Place)

abbrev row_list : Vec Place Global → places.Places
row_list v = row_places (row_of (Each 0 v)).1

list_is : (v : Vec Place Global) → row_list v ≡ places_of v.items
list_is v = let row = row_of (Each 0 v) in row_is row.0 row.1 ∙ ap places_of (items_hidden-the_row-Place-0 v)

pub place_each : (line : ℕ) (v : Vec Place Global) → place_of (Each line v) ≡ places.Each line (places_of v.items)
place_each line v = ap (λ ps. places.Each line ps) (list_is v)

pub place_starred : (line : ℕ) (v : Vec Place Global) (star : Box Place Global) (w : Vec Place Global) → place_of (Starred line v star w) ≡ places.Starred line (places_of v.items) (place_of star.value) (places_of w.items)
place_starred line v star w =
    ap (λ ps. places.Starred line ps (place_of star.value) (row_list w)) (list_is v) ∙ ap (λ ps. places.Starred line (places_of v.items) (place_of star.value) ps) (list_is w)
