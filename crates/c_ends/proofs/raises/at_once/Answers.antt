use Rattle.c_ends.proofs.raises.at_once.Goals as goal

pub returns-in-Raise : goal.returns-in-Raise
returns-in-Raise c = rw c.in-Raise.is c.raises.ensures
