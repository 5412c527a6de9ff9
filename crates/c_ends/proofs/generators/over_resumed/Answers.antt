use Rattle.c_ends.proofs.generators.over_resumed.Goals as goal

pub returns-in-Send : goal.returns-in-Send
returns-in-Send c = rw c.in-Send.is c.raises_bare.ensures
