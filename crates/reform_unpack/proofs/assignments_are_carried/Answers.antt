use Rattle.reform_unpack.proofs.Assignments.{no_target_carried, target_carried, assignment_carried}
use Rattle.reform_unpack.proofs.assignments_are_carried.Goals as goal

pub returns : goal.returns
returns c = record {
  done = no_target_carried;
  also = target_carried;
  assign = assignment_carried;
}
