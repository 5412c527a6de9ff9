-- What is kept by number, in a list that reaches so far.
use Rattle.std.proofs.Common.{◌≡◌, ℕ, zero, suc, ◌<◌, ◌≤◌, List, [], ◌∷◌, ◌++◌, Option, Some, None, refl, ap, arith, length}
use Rattle.std.specs.Prelude.{slice_get, slice_set}
use Rattle.nu_calls.specs.Surroundings.{keep_at, kept_at}

pub one_seat : {K : Type 0} (ks : List (Option K)) (n : ℕ) (x : Option K) → length ks ≤ n → keep_at (ks ++ None ∷ []) n x ≡ keep_at ks n x
one_seat [] zero x h = refl
one_seat [] (suc n) x h = refl
one_seat (k ∷ ks) zero x h = absurd (omega (arith, h))
one_seat (k ∷ ks) (suc n) x h = ap (λ l. k ∷ l) (one_seat ks n x (omega (arith, h)))

pub keep_is : {K : Type 0} (ks : List (Option K)) (n : ℕ) (x : Option K) → n < length ks → slice_set ks n x ≡ keep_at ks n x
keep_is [] n x h = absurd (omega (arith, h))
keep_is (k ∷ ks) zero x h = refl
keep_is (k ∷ ks) (suc n) x h = ap (λ l. k ∷ l) (keep_is ks n x (omega (arith, h)))

pub kept_is : {K : Type 0} (ks : List (Option K)) (n : ℕ) (k : Option K) → slice_get ks n ≡ Some k → kept_at ks n ≡ k
kept_is [] n k h = absurd (cc)
kept_is (x ∷ ks) zero k h = cc
kept_is (x ∷ ks) (suc n) k h = kept_is ks n k h

pub kept_beyond : {K : Type 0} (ks : List (Option K)) (n : ℕ) → length ks ≤ n → kept_at ks n ≡ None
kept_beyond [] n h = refl
kept_beyond (k ∷ ks) zero h = absurd (omega (arith, h))
kept_beyond (k ∷ ks) (suc n) h = kept_beyond ks n (omega (arith, h))
