-- Meanings that go in steps, walked a stretch at a time.
use Rattle.std.specs.Prelude.{◌≡◌, ℕ, zero, suc, ◌+◌, List}
use Rattle.nu_run.specs.Steps.{Stepped, More, Halt, on_step, run}

-- how many steps are taken, of at most so many: none after the end
abbrev pub taken : {S : Type 0} → (S → Stepped S) → ℕ → Stepped S → ℕ
taken step zero x = zero
taken step (suc n) (More s) = suc (taken step n (step s))
taken step (suc n) (Halt printed e) = zero

-- where so many steps lead; the end stays
abbrev pub gone : {S : Type 0} → (S → Stepped S) → ℕ → Stepped S → Stepped S
gone step zero x = x
gone step (suc n) (More s) = gone step n (step s)
gone step (suc n) (Halt printed e) = Halt printed e

-- of at most n steps t are taken, and they lead from here to there: with any number of further steps, both run alike
pub record Leads {S : Type 0} (step : S → Stepped S) (printed : S → List ℕ) (n t : ℕ) (x y : Stepped S) : Type 0 where
  pub exact : gone step n x ≡ y
  pub runs : (k : ℕ) → on_step x (run step printed (n + k)) ≡ on_step y (run step printed k)
  pub steps : (k : ℕ) → taken step (n + k) x ≡ t + taken step k y
