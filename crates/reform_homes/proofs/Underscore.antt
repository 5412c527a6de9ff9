-- The clause of `strip_prefix` at an underscore.
use Rattle.std.proofs.Common.{◌≡◌, ◌≢◌, ◌==◌, Bool, ap, true, false, ℕ, List, [], ◌∷◌, Option, Some, None, option_map, refl, sym, arith}
use Rattle.std.specs.Prelude.{MatchOption}
use Rattle.std.specs.Borrow.{Bor}
use Rattle.std.proofs.lemmas.Bool.Decides.{nat_tests}
use Rattle.py_scopes.specs.Names.{after_underscore}

pub after_underscore-from : (bs : List ℕ) (r : Option (Bor (List ℕ)))
    → MatchOption r ((rest : List ℕ) → bs ≢ 95 ∷ rest) (λ x. bs ≡ 95 ∷ x.now) → option_map (λ s. s.now) r ≡ after_underscore bs
after_underscore-from [] None h = refl
after_underscore-from [] (Some x) h = cc
after_underscore-from (b ∷ bs) None h = go (b == 95) refl
  where
    go : (t : Bool) → (b == 95) ≡ t → None ≡ after_underscore (b ∷ bs)
    go true e = absurd (h bs (ap (λ n. n ∷ bs) (grind (arith, nat_tests))))
    go false e = rw e
after_underscore-from (b ∷ bs) (Some x) h = sym (ap after_underscore h)
