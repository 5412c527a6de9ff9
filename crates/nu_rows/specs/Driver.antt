-- The run of a main row, as a run with a bound.
use Rattle.std.specs.Prelude.{ℕ, zero}
use Rattle.nu_run.specs.declared.End.TheVariants as end
use Rattle.nu_run.specs.declared.End as run_end
use Rattle.nu_run.specs.Runs as runs
use Rattle.nu_rows.specs.Rows.{End, Begin, Res, Spent, Paused, Ended, Row, does}

-- an outcome as a run, where `shows` says how a run shows that ends so in this state. Nothing goes on from a pause of
-- the main row, so of it a run says nothing
abbrev pub told : {S : Type 0} → (End → S → run_end.End) → Res S → runs.Run
told shows (Spent o) = runs.Going o
told shows (Paused o s v place) = runs.Ended o (end.Undefined zero zero)
told shows (Ended o s e) = runs.Ended o (shows e s)

-- a main row from a state, within each bound
abbrev pub main_run : {S I : Type 0} → (I → Row S I) → (End → S → run_end.End) → Row S I → S → ℕ → runs.Run
main_run rows shows main s n = told shows (does rows main Begin s n)
