use Rattle.py_accepted.proofs.Texts as texts
use Rattle.py_accepted.proofs.accepted_scripts_are_lawful.Goals as goal

pub returns : goal.returns
returns c = texts.accepted_scripts_are_lawful c.scopes_nest.ensures
