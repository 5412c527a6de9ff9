use Rattle.carries_definitions.proofs.Clauses.{push_carried, put_carried, emit_carried, filter_carried, ranging_carried}
use Rattle.carries_definitions.proofs.Collected.{comprehension_carried, generates_carried, gathers_carried}
use Rattle.carries_definitions.proofs.comprehensions_are_carried.Goals as goal

pub returns : goal.returns
returns c = record {
  comprehension = comprehension_carried;
  push = push_carried;
  put = put_carried;
  emit = emit_carried;
  filter = filter_carried;
  ranging = ranging_carried;
  generates = generates_carried;
  gathers = gathers_carried;
}
