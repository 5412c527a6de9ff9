use Rattle.std.proofs.Common.{false, refl, sym, ◌∙◌}
use Rattle.op_rules.specs.TableRules.{table_rules}
use Rattle.c_meaning.specs.Step as meaning
use Rattle.c_stack.specs.Frames.{site}
use Rattle.c_stack.specs.Standing.{state_of}
use Rattle.c_machine.specs.Effects.{answered}
use Rattle.c_machine.proofs.Operations.{prepared, prepared_line, unprepared, unprepared_line}
use Rattle.c_machine.proofs.Taking.{steps_same, steps_short, taken_quietly}
use Rattle.c_machine.proofs.operation.by_table.Goals as goal

pub returns-in-Ok-Some-clause-steps : goal.returns-in-Ok-Some-clause-steps
returns-in-Ok-Some-clause-steps g c =
    let x = c.args.run.now in
    let args = meaning.values x.running.registers c.args.arguments.now in
    let end = sym c.in-Ok-Some.field-0-is ∙ c.in-Ok-Some.ensures.end in
    steps_same _ _ _ (λ w. meaning.operates table_rules c.args.code.now (state_of x w) (site c.args.at) c.args.op args) _ _ _ _ _ _ _ _ _ _ _ _ (prepared_line c.in-Ok-Some.end (answered x.world c.args.op args) end)
    (λ w. prepared c.args.code.now x c.prepare.new.run c.args.at w c.args.op args c.in-Ok-Some.end c.in-Ok-Some.ensures.world end)
    c.perform.ensures.steps

pub returns-in-Ok-None-clause-steps : goal.returns-in-Ok-None-clause-steps
returns-in-Ok-None-clause-steps g c =
    let x = c.args.run.now in
    let args = meaning.values x.running.registers c.args.arguments.now in
    let end = sym c.in-Ok-None.field-0-is ∙ c.in-Ok-None.ensures.end in
    steps_same false _ _ _ _ _ _ _ _ _ _ _ _ _ _ _ (sym (unprepared_line (answered x.world c.args.op args) end)) (λ w. refl)
    (refl, refl, taken_quietly _ _ _ _ (λ w. sym (unprepared c.args.code.now x c.prepare.new.run c.args.at w c.args.op args c.in-Ok-None.ensures.world end) ∙ c.undefined.ensures w))

pub returns-in-Err-clause-steps : goal.returns-in-Err-clause-steps
returns-in-Err-clause-steps g c = steps_short _ _ _ _ _ _ _ _
