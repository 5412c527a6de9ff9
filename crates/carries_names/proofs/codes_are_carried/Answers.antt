use Rattle.carries_names.proofs.Codes.{statements_carried, value_carried, code_carried}
use Rattle.carries_names.proofs.Begins.{begins_alike}
use Rattle.carries_names.proofs.codes_are_carried.Goals as goal

pub returns : goal.returns
returns c = record {
  statements = statements_carried;
  value = value_carried;
  begun = code_carried;
  begins = begins_alike;
}
