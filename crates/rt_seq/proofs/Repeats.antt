-- Lists repeated.
use Rattle.std.proofs.Common.{◌≡◌, ℕ, zero, suc, ◌-◌, ◌<◌, ◌++◌, Some, true, List, [], ◌∷◌, length, refl, arith, zero-mul}
use Rattle.std.specs.Prelude.{◌==◌}
use Rattle.std.proofs.lemmas.Bool.Decides.{nat_tests}
use Rattle.nu_value.specs.declared.value.Value.{Value}
use Rattle.op_rules.specs.SequenceOperators.{repeats, repeated}

pub repeats_next : (n : ℕ) (items : List Value) → 0 < n → repeats n items ≡ items ++ repeats (n - 1) items
repeats_next zero items h = absurd (omega arith)
repeats_next (suc n) items h = let back : suc n - 1 ≡ n = omega arith in rw back refl

repeats_nothing : (n : ℕ) → repeats n [] ≡ []
repeats_nothing zero = refl
repeats_nothing (suc n) = repeats_nothing n

pub repeated_nothing : (items : List Value) (n : ℕ) → (length items == 0) ≡ true → repeated items n ≡ Some []
repeated_nothing [] n h = rw (zero-mul n, repeats_nothing n) refl
repeated_nothing (x ∷ items) n h = absurd (grind (arith, nat_tests))
