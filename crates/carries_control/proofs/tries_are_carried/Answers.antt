use Rattle.carries_control.proofs.Tries.{try_carried, no_clause_carried, bare_carried, clause_carried, unnamed_carried, copied_carried}
use Rattle.carries_control.proofs.tries_are_carried.Goals as goal

pub returns : goal.returns
returns c = record {
  try = try_carried;
  none = no_clause_carried;
  bare = bare_carried;
  clause = clause_carried;
  unnamed = unnamed_carried;
  copied = copied_carried;
}
