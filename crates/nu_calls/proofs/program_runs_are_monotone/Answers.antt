use Rattle.nu_rows.proofs.Driving.{main_monotone}
use Rattle.nu_calls.specs.Scripts.{shows, main_row, start_state}
use Rattle.nu_calls.proofs.program_runs_are_monotone.Goals as goal

pub returns : goal.returns
returns g c = record { monotone = λ p file input. main_monotone p.rows shows (main_row p file) (start_state p input) }
