use Rattle.c_input.proofs.Lined.{good_is, odd_is}
use Rattle.c_input.proofs.input.text_of.Goals as goal

pub returns-in-Ok : goal.returns-in-Ok
returns-in-Ok c = (c.in-Ok.ensures.cases.0, good_is c.args.line.now c.if-line-ge-LIMIT.false c.in-Ok.ensures.cases.1)

pub returns-in-Err : goal.returns-in-Err
returns-in-Err c = odd_is c.args.line.now c.in-Err.ensures.cases.0
