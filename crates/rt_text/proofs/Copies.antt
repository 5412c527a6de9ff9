-- Copies of a text, one more.
use Rattle.std.proofs.Common.{◌≡◌, ℕ, zero, suc, ◌-◌, ◌<◌, true, List, [], ◌∷◌, ◌++◌, length, refl, arith, zero-mul}
use Rattle.std.specs.Prelude.{◌==◌}
use Rattle.std.proofs.lemmas.Bool.Decides.{nat_tests}
use Rattle.nu_value.specs.declared.value.Value.TheVariants as value
use Rattle.op_forms.specs.declared.end.OpEnd.TheVariants as opend
use Rattle.op_rules.specs.TextRows.{copies, repeated}

pub copies_next : (n : ℕ) (text : List ℕ) → 0 < n → copies n text ≡ text ++ copies (n - 1) text
copies_next zero text h = absurd (omega arith)
copies_next (suc n) text h = let back : suc n - 1 ≡ n = omega arith in rw back refl

copies_nothing : (n : ℕ) → copies n [] ≡ []
copies_nothing zero = refl
copies_nothing (suc n) = copies_nothing n

-- an empty text, repeated
pub repeated_nothing : (text : List ℕ) (n : ℕ) → (length text == 0) ≡ true → repeated text n ≡ opend.Give (value.Str [])
repeated_nothing [] n h = rw (zero-mul n, copies_nothing n) refl
repeated_nothing (x ∷ text) n h = absurd (grind (arith, nat_tests))
