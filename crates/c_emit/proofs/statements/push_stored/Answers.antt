use Rattle.c_emit.proofs.statements.push_stored.Goals as goal

pub returns-in-Sent : goal.returns-in-Sent
returns-in-Sent c = rw c.in-Sent.is c.write-in-Sent.ensures.bytes
