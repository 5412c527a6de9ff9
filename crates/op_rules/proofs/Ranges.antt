-- Checked operations answer what is in range.
use Rattle.std.proofs.Common.{◌≡◌, ◌<◌, ◌^◌, Option, Some, None, true, false, arith}
use Rattle.std.proofs.lemmas.Bool.Decides.{nat_tests}
use Rattle.std.specs.Prelude.{ℤ, pos, negsuc, FitsSigned}
use Rattle.std.specs.Int.{w128}
use Rattle.std.specs.Option.{SomeIff}
use Rattle.op_rules.specs.Numbers.{fits_int, in_range, checked}

pub fits_is : (z : ℤ) → FitsSigned w128 z → fits_int z ≡ true
fits_is (pos n) h = grind arith
fits_is (negsuc n) h = grind arith

fits_not : (z : ℤ) → (FitsSigned w128 z → ⊥) → fits_int z ≡ false
fits_not (pos n) h = let g : n < 2 ^ 127 → ⊥ = λ p. h (record { sfits = p }) in grind (arith, nat_tests)
fits_not (negsuc n) h = let g : n < 2 ^ 127 → ⊥ = λ p. h (record { sfits = p }) in grind (arith, nat_tests)

pub checked_is : (o : Option ℤ) (z : ℤ) → SomeIff o (FitsSigned w128 z) z → checked o ≡ in_range z
checked_is (Some x) z h = rw (fits_is z h.0, h.1)
checked_is None z h = rw (fits_not z h)
