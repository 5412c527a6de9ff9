use Rattle.c_machine.proofs.Inputs.{line_fault, line_taken}
use Rattle.c_machine.proofs.input.take_line.Goals as goal

pub returns-in-Ok-next_line-clause-line : goal.returns-in-Ok-next_line-clause-line
returns-in-Ok-next_line-clause-line g c =
    let filled = c.in-Ok.ensures.fills in
    line_taken _ _ _ _ _ _ _ c.in-Ok-next_line.line filled.0 filled.1 c.in-Ok-next_line.ensures.ended c.in-Ok.ensures.whole c.in-Ok-next_line.ensures.line

pub returns-in-Err-Failed-clause-line : goal.returns-in-Err-Failed-clause-line
returns-in-Err-Failed-clause-line g c =
    let filled = (rw c.in-Err-Failed.field-0-is at c.in-Err-Failed.ensures).fills in
    line_fault _ _ _ _ _ _ filled.0 filled.1
