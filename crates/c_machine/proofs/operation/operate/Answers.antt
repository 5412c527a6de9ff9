use Rattle.std.proofs.Common.{false, refl, ◌∙◌}
use Rattle.c_meaning.specs.Step as meaning
use Rattle.c_machine.proofs.AtOnce.{led, led_line}
use Rattle.c_machine.proofs.Taking.{steps_same, taken_quietly}
use Rattle.c_machine.proofs.operation.operate.Goals as goal

pub returns-in-Some-clause-steps : goal.returns-in-Some-clause-steps
returns-in-Some-clause-steps g c =
    let x = c.args.run.now in
    let args = meaning.values x.running.registers c.args.arguments.now in
    steps_same false _ _ _ _ _ _ _ _ _ _ _ _ _ _ _ (led_line c.args.op x.world args c.in-Some.value c.at_once.new.world c.in-Some.ensures.goes) (λ w. refl)
    (refl, refl, taken_quietly _ _ _ _ (λ w. led c.args.code.now x c.args.at w c.args.op args c.in-Some.value c.at_once.new.world c.in-Some.ensures.goes ∙ c.store.ensures w))

pub returns-in-None-clause-steps : goal.returns-in-None-clause-steps
returns-in-None-clause-steps g c = rw (c.in-None.ensures.same refl) at c.by_table.ensures.steps
