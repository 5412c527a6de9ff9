use Rattle.carries_control.proofs.Tries.{raise_carried, reraise_carried, assert_carried}
use Rattle.carries_control.proofs.raises_are_carried.Goals as goal

pub returns : goal.returns
returns c = record { raise = raise_carried; reraise = reraise_carried; assert = assert_carried }
