use Rattle.py_scopes.proofs.NestedScopes as lemmas
use Rattle.py_scopes.proofs.homes.scopes_nest.Goals as goal

pub returns : goal.returns
returns c = lemmas.scopes_nest
