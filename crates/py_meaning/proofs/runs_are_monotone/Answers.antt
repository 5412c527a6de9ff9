use Rattle.std.specs.Prelude.{length}
use Rattle.nu_rows.proofs.Driving.{main_monotone}
use Rattle.nu_calls.specs.Scripts.{shows, main_row, start_state}
use Rattle.py_meaning.specs.Bodies.{program}
use Rattle.py_meaning.specs.Script.{all_codes}
use Rattle.py_meaning.proofs.runs_are_monotone.Goals as goal

pub returns : goal.returns
returns c = λ rules name script text input.
    let p = program rules (length script.scopes) (all_codes script text) in main_monotone p.rows shows (main_row p name) (start_state p input)
