-- The law of programs' runs.
use Rattle.std.specs.Prelude.{ℕ, List}
use Rattle.nu_run.specs.Runs.{IsMonotone}
use Rattle.nu_calls.specs.Scripts.{Program, program_run}

-- in every language: a larger bound prints no less, and an end stays
pub record ProgramRunsAreMonotone (F I : Type 0) : Type 0 where
  pub monotone : (p : Program F I) (file input : List ℕ) → IsMonotone (program_run p file input)
