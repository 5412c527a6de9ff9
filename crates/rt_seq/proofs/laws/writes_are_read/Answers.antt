use Rattle.rt_seq.proofs.WriteLaw.{writes}
use Rattle.rt_seq.proofs.laws.writes_are_read.Goals as goal

pub returns : goal.returns
returns c = writes
