use Rattle.carries_control.proofs.Finish.{finally_carried, named_carried}
use Rattle.carries_control.proofs.With.{with_carried}
use Rattle.carries_control.proofs.finishes_are_carried.Goals as goal

pub returns : goal.returns
returns c = record { finally = finally_carried; named = named_carried; with_item = with_carried }
