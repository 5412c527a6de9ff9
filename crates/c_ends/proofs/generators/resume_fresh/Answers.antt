use Rattle.std.proofs.lemmas.Result.{IfOk-weaker}
use Rattle.c_ends.proofs.generators.resume_fresh.Goals as goal

pub returns-in-Send : goal.returns-in-Send
returns-in-Send c = rw c.in-Send.is (IfOk-weaker c.send_fresh.result _ _ (λ b h. h c.args.scripts) c.send_fresh.ensures)

pub returns-in_ok-outcome-in-Throw : goal.returns-in_ok-outcome-in-Throw
returns-in_ok-outcome-in-Throw c = λ input frames is. rw c.in-Throw.is (c.in_ok-outcome-in-Throw.ensures c.args.parts.1 c.args.parts.2 input frames is)
