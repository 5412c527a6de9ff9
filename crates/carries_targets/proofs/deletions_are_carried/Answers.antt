use Rattle.carries_targets.proofs.Deletions.{attribute_carried, index_carried, also_carried}
use Rattle.carries_targets.proofs.deletions_are_carried.Goals as goal

pub returns : goal.returns
returns c = record { attribute = attribute_carried; index = index_carried; also = also_carried }
