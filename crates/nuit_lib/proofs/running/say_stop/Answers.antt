use Rattle.nuit_lib.proofs.running.say_stop.Goals as goal

pub returns : goal.returns
returns g c = rw (c.as_str.ensures.value, c.in-Ok.ensures.ok, c.name_of-name.ensures) at c.say.ensures
