use Rattle.carries_targets.proofs.Augments.{name_carried, attribute_carried, index_carried}
use Rattle.carries_targets.proofs.augments_are_carried.Goals as goal

pub returns : goal.returns
returns c = record { name = name_carried; attribute = attribute_carried; index = index_carried }
