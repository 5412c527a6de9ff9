use Rattle.py_safe.proofs.Runs.{codes_defined, same_defined}
use Rattle.py_safe.proofs.runs_never_end_undefined.Goals as goal

pub returns : goal.returns
returns c = record { codes = codes_defined; same = same_defined }
