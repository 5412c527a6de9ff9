use Rattle.py_headings.proofs.Parameters.{make_heading}
use Rattle.py_headings.proofs.parameters_make_headings.Goals as goal

pub returns : goal.returns
returns w = make_heading
