use Rattle.node_reader.proofs.Heads.{leave_none}
use Rattle.node_reader.proofs.line.leave.Goals as goal

pub returns-then-levels-eq0-clause-none : goal.returns-then-levels-eq0-clause-none
returns-then-levels-eq0-clause-none c = leave_none c.args.text.now c.in_ok-levels.rest.now c.in_ok-levels.levels c.in_ok-levels.ensures.some c.if-levels-eq0.true
