use Rattle.nu_rows.proofs.Driving.{main_monotone}
use Rattle.nu_calls.specs.Scripts.{shows, main_row, start_state}
use Rattle.node_tree.specs.Run.{program}
use Rattle.node_tree.proofs.node_runs_are_monotone.Goals as goal

pub returns : goal.returns
returns c = λ rules script input. let p = program rules script in main_monotone p.rows shows (main_row p script.name) (start_state p input)
