use Rattle.std.proofs.Common.{◌≡◌, Err, None, subst, true}
use Rattle.c_input.specs.Lines.{Took}
use Rattle.c_machine.specs.Calls.{TakesLine}
use Rattle.c_machine.specs.Inputs.{asks}
use Rattle.c_machine.specs.Machines.{answer_at_rest}
use Rattle.op_rules.specs.TableRules.{table_rules}
use Rattle.c_meaning.specs.Step.{step}
use Rattle.c_stack.specs.Standing.{state_of}
use Rattle.c_machine.proofs.Taking.{line_trouble, steps_asked}
use Rattle.c_machine.proofs.machine.Machine.step.Goals as goal

pub returns-in-Ok-clause-reads : goal.returns-in-Ok-clause-reads
returns-in-Ok-clause-reads g c = rw (← c.self.view_is) (λ rest asked. (steps_asked _ _ _ _ _ _ _ _ _ _ _ _ _ _ asked c.in-Ok.ensures.steps).1)

pub returns-in-Err-clause-reads : goal.returns-in-Err-clause-reads
returns-in-Err-clause-reads g c =
    subst
    (λ m. answer_at_rest m ≡ None → asks m.code m.standing.execution ≡ true
    → (took : Took c.args.input.now c.step.new.input (g.I.Source.left c.args.input.now) (g.I.Source.left c.step.new.input) m.lines c.step.new.lines)
    × TakesLine (λ w. step table_rules m.code (state_of m.standing.execution w)) m.lines c.step.new.lines took.taken (record { execution = c.step.new.run; end = c.self.inside.end }) (Err c.in-Err.e))
    c.self.view_is
    (λ rest asked.
    let h = (steps_asked _ _ _ _ _ _ _ _ _ _ _ _ _ _ asked c.in-Err.ensures.steps).1 in
    (h.0, line_trouble (λ w. step table_rules c.self.inside.code (state_of c.self.inside.execution w)) c.self.inside.lines c.step.new.lines h.0.taken c.step.new.run (record { execution = c.step.new.run; end = c.self.inside.end }) c.in-Err.e h.1))
