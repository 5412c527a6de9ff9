use Rattle.rt_dict.proofs.Places.{copy_same}
use Rattle.rt_dict.proofs.laws.copies_are_the_same.Goals as goal

pub returns : goal.returns
returns c = copy_same
