use Rattle.rt_seq.proofs.SliceLaw.{slices}
use Rattle.rt_seq.proofs.laws.slices_are_items.Goals as goal

pub returns : goal.returns
returns c = slices
