-- The number of an object or none, written as one number.
use Rattle.std.specs.Prelude.{◌≡◌, ℕ, zero, suc, Option, Some, None, refl}
use Rattle.nu_value.specs.declared.link.Link.TheInside.{Inside}

abbrev pub number_from : ℕ → Option ℕ
number_from zero = None
number_from (suc n) = Some n

abbrev pub linked : Inside → Option ℕ
linked t = number_from t.place

abbrev place_at : ℕ → Inside
place_at n = record { place = n }

abbrev pub place_of : Option ℕ → Inside
place_of None = place_at 0
place_of (Some n) = place_at (suc n)

exact_place : (n : ℕ) → place_of (number_from n) ≡ place_at n
exact_place zero = refl
exact_place (suc n) = refl

pub place_is_exact : (t : Inside) → Unit {0} → place_of (linked t) ≡ t
place_is_exact t h = exact_place t.place
