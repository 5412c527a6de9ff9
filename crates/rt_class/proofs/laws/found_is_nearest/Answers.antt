use Rattle.rt_class.proofs.Nearest.{found_nearest}
use Rattle.rt_class.proofs.laws.found_is_nearest.Goals as goal

pub returns : goal.returns
returns c = found_nearest
