use Rattle.nuit_lib.proofs.building.refuse.Goals as goal

pub returns : goal.returns
returns g c = rw (c.as_str.ensures.value, c.in-Ok.ensures.ok, c.name-kind.ensures) at c.say.ensures
