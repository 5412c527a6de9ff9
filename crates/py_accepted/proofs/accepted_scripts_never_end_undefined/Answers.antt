use Rattle.py_accepted.proofs.Runs.{never_undefined}
use Rattle.py_accepted.proofs.accepted_scripts_never_end_undefined.Goals as goal

pub returns : goal.returns
returns c = never_undefined c.runs_never_end_undefined.ensures c.accepted_scripts_are_lawful.ensures
