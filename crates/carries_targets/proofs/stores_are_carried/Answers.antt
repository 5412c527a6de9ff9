use Rattle.carries_targets.proofs.Stores.{bare_placed, whole_carried, wider_placed, attribute_placed, index_placed}
use Rattle.carries_targets.proofs.stores_are_carried.Goals as goal

pub returns : goal.returns
returns c = record { bare = bare_placed; whole = whole_carried; wider = wider_placed; attribute = attribute_placed; index = index_placed }
