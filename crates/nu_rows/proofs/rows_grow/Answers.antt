use Rattle.nu_rows.proofs.Grow.{does_grow}
use Rattle.nu_rows.proofs.Driving.{main_monotone}
use Rattle.nu_rows.proofs.rows_grow.Goals as goal

pub returns : goal.returns
returns g c = record { row = does_grow; main = main_monotone }
