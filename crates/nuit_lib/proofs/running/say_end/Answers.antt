use Rattle.nuit_lib.proofs.running.say_end.Goals as goal

pub returns-in-Undefined : goal.returns-in-Undefined
returns-in-Undefined g c = rw c.in-Undefined.is c.say_undefined.ensures
