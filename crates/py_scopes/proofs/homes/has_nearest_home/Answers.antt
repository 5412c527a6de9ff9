use Rattle.py_scopes.proofs.NearestHome as lemmas
use Rattle.py_scopes.proofs.homes.has_nearest_home.Goals as goal

pub returns : goal.returns
returns c = lemmas.has_nearest_home
