use Rattle.rt_seq.proofs.apply.sequence_pair.Goals as goal

pub returns-in-Mul : goal.returns-in-Mul
returns-in-Mul c = rw c.in-Mul.is c.mul_row.ensures
