use Rattle.rt_seq.proofs.Ended.{ended}
use Rattle.rt_seq.proofs.asking.unpackstar_row.Goals as goal

pub returns : goal.returns
returns c = ended c.ask_three.result _ c.ask_three.ensures
