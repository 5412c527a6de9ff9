-- The laws of runs.
use Rattle.std.specs.Prelude.{ℕ}
use Rattle.nu_run.specs.Runs.{Run, Same}

pub record SameIsAnEquivalence : Type 0 where
  pub reflexive : (P : ℕ → Run) → Same P P
  pub symmetric : (P Q : ℕ → Run) → Same P Q → Same Q P
  pub transitive : (P Q R : ℕ → Run) → Same P Q → Same Q R → Same P R
