use Rattle.rt_seq.proofs.SortLaw.{sorting}
use Rattle.rt_seq.proofs.laws.sorting_is_stable.Goals as goal

pub returns : goal.returns
returns c = sorting
