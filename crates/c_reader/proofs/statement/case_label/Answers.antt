use Rattle.c_reader.proofs.Statements.{no_label}
use Rattle.c_reader.proofs.statement.case_label.Goals as goal

pub returns-clause-none : goal.returns-clause-none
returns-clause-none c = no_label c.args.number_of_case c.args.text.now c.in_ok-behind.behind.now c.number.result c.in_ok-behind.ensures.some c.number.ensures.none
