use Rattle.carries_base.proofs.Small.{constant_carried, local_carried, operation_carried, yield_carried}
use Rattle.carries_base.proofs.small_constructs_are_carried.Goals as goal

pub returns : goal.returns
returns c = record {
  constant = constant_carried;
  local = local_carried;
  operation = operation_carried;
  yields = yield_carried;
}
