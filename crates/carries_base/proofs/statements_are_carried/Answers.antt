use Rattle.std.proofs.Common.{refl, arith}
use Rattle.py_meaning.specs.Syntax as syntax
use Rattle.carries_base.proofs.Statements.{done_carried, pass_carried, evaluate_carried, block_carried, if_carried, while_carried, return_carried, leave_carried, local_target_carried}
use Rattle.carries_base.proofs.statements_are_carried.Goals as goal

pub returns : goal.returns
returns c = record {
  done = done_carried;
  pass = pass_carried;
  evaluate = evaluate_carried;
  then = block_carried;
  branch = if_carried;
  while = while_carried;
  return = return_carried;
  break = λ h low caught le. leave_carried h low 1 caught syntax.Break le (omega arith) (λ l handled. refl);
  continue = λ h low caught le. leave_carried h low 0 caught syntax.Continue le (omega arith) (λ l handled. refl);
  local = local_target_carried;
}
