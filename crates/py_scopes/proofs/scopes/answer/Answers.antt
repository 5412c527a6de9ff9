use Rattle.std.proofs.Common.{◌∙◌, Some, None, sym}
use Rattle.py_scopes.proofs.Table.{says}
use Rattle.py_scopes.proofs.scopes.answer.Goals as goal

pub returns-in-Some : goal.returns-in-Some
returns-in-Some c = says c.args.survey.now (Some c.in-Some.end) (sym c.in_ok-end.ensures ∙ c.in-Some.is)

pub returns : goal.returns
returns c = (c.in_ok-scopes.ensures, says c.args.survey.now None (sym c.in_ok-end.ensures ∙ c.in_default.is))
