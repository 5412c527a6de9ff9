use Rattle.std.proofs.Common.{◌≡◌, false, refl, rules}
use Rattle.c_machine.proofs.Operations.{other_line}
use Rattle.c_machine.proofs.Taking.{steps_same, taken_quietly}
use Rattle.c_machine.proofs.operation.perform.Goals as goal

pub returns-in-Put-clause-steps : goal.returns-in-Put-clause-steps
returns-in-Put-clause-steps g c =
    let text : c.in-Put.text ≡ c.as_str.result.now = search rules in
    rw (c.in-Put.is, text) (refl, refl, c.print.ensures.comes)

pub returns-in-Line-clause-steps : goal.returns-in-Line-clause-steps
returns-in-Line-clause-steps g c = rw c.in-Line.is (refl, c.read_line.ensures.reads)

pub returns-in-Ok : goal.returns-in-Ok
returns-in-Ok g c = record {
  steps = steps_same false _ _ _ _ _ _ _ _ _ _ _ _ _ _ _ (other_line c.args.end c.in_default.not-Line) (λ w. rw c.in_default.end-is refl)
      (refl, refl, taken_quietly _ _ _ _ c.in-Ok.ensures);
  count = refl;
  input_count = refl;
}
