use Rattle.c_machine.proofs.input.read_line.Goals as goal

pub returns-in-Ok-clause-reads : goal.returns-in-Ok-clause-reads
returns-in-Ok-clause-reads g c =
    let read = c.in-Ok.ensures.line in
    (read.0, record { leads = λ printed rest follows. c.give_line.ensures printed _ _ (read.1 rest follows) })
