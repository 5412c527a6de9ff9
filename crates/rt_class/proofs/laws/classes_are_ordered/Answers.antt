use Rattle.rt_class.proofs.Order.{ordered}
use Rattle.rt_class.proofs.laws.classes_are_ordered.Goals as goal

pub returns : goal.returns
returns c = ordered
