use Rattle.carries_targets.proofs.Unpacked.{each_placed, starred_placed}
use Rattle.carries_targets.proofs.unpacking_is_carried.Goals as goal

pub returns : goal.returns
returns c = record { each = each_placed; starred = starred_placed }
