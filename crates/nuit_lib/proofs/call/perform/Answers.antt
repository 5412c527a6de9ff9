use Rattle.nuit_lib.proofs.call.perform.Goals as goal

pub returns-in-Run-clause-writes : goal.returns-in-Run-clause-writes
returns-in-Run-clause-writes g c = rw c.in-Run.is c.run.ensures.writes
