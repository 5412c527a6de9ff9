use Rattle.carries_targets.proofs.Assignments.{none_carried, also_carried, assign_carried}
use Rattle.carries_targets.proofs.target_lists_are_carried.Goals as goal

pub returns : goal.returns
returns c = record { none = none_carried; also = also_carried; assign = assign_carried }
