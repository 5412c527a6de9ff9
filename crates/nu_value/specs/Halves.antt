-- Integers in two halves of 64 bits.
use Rattle.std.proofs.Common.{◌≡◌, ℕ, ◌+◌, ◌*◌, ◌<◌, arith, ap, ◌∙◌}
use Rattle.std.specs.Prelude.{◌/◌, ◌%◌, ◌^◌, ℤ}
use Rattle.std.specs.Int.{w128, cast_signed, cast_unsigned}
use Rattle.std.proofs.lemmas.Int.{of_z-to_z}
use Rattle.nu_value.specs.declared.integer.Integer.TheInside.{Inside}

abbrev pub AreHalves : Inside → Type 0
AreHalves t = (t.high < 2 ^ 64) × (t.low < 2 ^ 64)

-- two halves as one number
abbrev pub joined : ℕ → ℕ → ℕ
joined high low = high * 2 ^ 64 + low

abbrev pub integer_of : Inside → ℤ
integer_of t = cast_signed w128 (joined t.high t.low)

abbrev parted : ℕ → Inside
parted n = record { high = n / 2 ^ 64; low = n % 2 ^ 64 }

abbrev pub halves_of : ℤ → Inside
halves_of z = parted (cast_unsigned w128 z)

bits : (high low : ℕ) → high < 2 ^ 64 → low < 2 ^ 64 → cast_unsigned w128 (cast_signed w128 (joined high low)) ≡ joined high low
bits high low h l = of_z-to_z w128 (joined high low) (omega (arith, h, l))

high_half : (high low : ℕ) → low < 2 ^ 64 → joined high low / 2 ^ 64 ≡ high
high_half high low l = omega (arith, l)

low_half : (high low : ℕ) → low < 2 ^ 64 → joined high low % 2 ^ 64 ≡ low
low_half high low l = omega (arith, l)

abbrev of_two : ℕ → ℕ → Inside
of_two high low = record { high = high; low = low }

pub halves_are_exact : (t : Inside) → AreHalves t → halves_of (integer_of t) ≡ t
halves_are_exact t h =
    ap parted (bits t.high t.low h.0 h.1)
    ∙ ap (λ x. of_two x (joined t.high t.low % 2 ^ 64)) (high_half t.high t.low h.1)
    ∙ ap (λ x. of_two t.high x) (low_half t.high t.low h.1)
