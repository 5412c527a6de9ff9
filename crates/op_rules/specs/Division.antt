-- Floor division by the division whose rest isn't negative.
use Rattle.std.specs.Prelude.{ℤ, pos, ◌+ℤ◌, ◌-ℤ◌, Bool, ◌&&◌, if◌then◌else◌, int_lt}
use Rattle.std.specs.Int.{int_div_euclid, int_rem_euclid}

-- whether the two differ
abbrev pub is_apart : ℤ → ℤ → Bool
is_apart a b = int_lt b (pos 0) && int_lt (pos 0) (int_rem_euclid a b)

abbrev pub quotient_by : ℤ → ℤ → ℤ
quotient_by a b = if is_apart a b then int_div_euclid a b -ℤ pos 1 else int_div_euclid a b

abbrev pub rest_by : ℤ → ℤ → ℤ
rest_by a b = if is_apart a b then int_rem_euclid a b +ℤ b else int_rem_euclid a b
