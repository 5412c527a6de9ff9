use Rattle.std.proofs.Common.{◌≡◌, Some, false, refl, rules, sym}
use Rattle.op_rules.specs.TableRules.{table_rules}
use Rattle.c_meaning.specs.declared.program.Stored.TheVariants as stored
use Rattle.c_meaning.specs.Step as meaning
use Rattle.c_stack.specs.Standing.{state_of}
use Rattle.c_machine.specs.Values.{is_operation}
use Rattle.c_machine.proofs.Operations.{other_asks}
use Rattle.c_machine.proofs.Taking.{steps_same, steps_short, taken_quietly}
use Rattle.c_machine.proofs.step.step.Goals as goal

pub returns-in-Store-default-Operation-clause-steps : goal.returns-in-Store-default-Operation-clause-steps
returns-in-Store-default-Operation-clause-steps g c =
    let x = c.args.run.now in
    let p : meaning.placed_at c.args.code.now x.running ≡ Some c.in-Some.placed.now = sym c.in-Some.ensures.value in
    let w = c.in-Store-default-Operation in
    let operation : w.what ≡ stored.Operation w.op w.line w.arguments w.what-3 = search rules in
    let arguments : c.as_slice.result.now ≡ w.arguments = search rules in
    steps_same _ _ _ _ _ _ _ _ _ _ _ _ _ _ _ _ (rw (p, w.is, operation) (search rules)) (λ v. rw (p, w.is, operation) (search rules)) c.operate.ensures.steps

pub returns-in-Ok-clause-steps : goal.returns-in-Ok-clause-steps
returns-in-Ok-clause-steps g c =
    let x = c.args.run.now in
    let placed = c.in-Some.placed.now in
    let p : meaning.placed_at c.args.code.now x.running ≡ Some placed = sym c.in-Some.ensures.value in
    let other : is_operation placed.statement ≡ false = search rules in
    steps_same false _ (λ w. meaning.statement_step table_rules c.args.code.now (state_of x w) placed.statement placed.goal placed.cases) _ _ _ _ _ _ _ _ _ _ _ _ _
    (rw p (sym (other_asks x placed.statement other))) (λ w. rw p refl) (refl, refl, taken_quietly _ _ _ _ c.in-Ok.ensures.acts)

pub returns-in-Err-clause-steps : goal.returns-in-Err-clause-steps
returns-in-Err-clause-steps g c = steps_short _ _ _ _ _ _ _ _
