-- Meanings that go in steps.
use Rattle.std.specs.Prelude.{ℕ, zero, suc, List}
use Rattle.nu_run.specs.declared.End.{End}
use Rattle.nu_run.specs.Runs.{Run, Going, Ended, IsPrefix}

-- what one step gives: a further state, or the end with all that was printed
pub data Stepped (S : Type 0) : Type 0 where
  More : (state : S) → Stepped S
  Halt : (printed : List ℕ) (end : End) → Stepped S

abbrev pub on_step : {S : Type 0} → Stepped S → (S → Run) → Run
on_step (More s) go = go s
on_step (Halt printed e) go = Ended printed e

-- at most n steps from a state
abbrev pub run : {S : Type 0} → (S → Stepped S) → (S → List ℕ) → ℕ → S → Run
run step printed zero s = Going (printed s)
run step printed (suc n) s = on_step (step s) (run step printed n)

-- a step only adds to what was printed
abbrev pub Grew : {S : Type 0} → (S → List ℕ) → List ℕ → Stepped S → Type 0
Grew printed before (More s) = IsPrefix before (printed s)
Grew printed before (Halt after e) = IsPrefix before after
