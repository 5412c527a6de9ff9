use Rattle.py_headings.proofs.Accepted.{accepted_headed}
use Rattle.py_headings.proofs.accepted_scripts_have_headings.Goals as goal

pub returns : goal.returns
returns w = accepted_headed
