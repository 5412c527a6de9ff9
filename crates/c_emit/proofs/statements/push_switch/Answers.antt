use Rattle.c_emit.proofs.Pushes.{three_pieces}
use Rattle.c_emit.proofs.statements.push_switch.Goals as goal

pub returns : goal.returns
returns c = three_pieces _ _ _ _ _ _ _ _ c.in_ok-push_form.ensures c.in_ok-push_cases.ensures c.push_form-2.ensures
