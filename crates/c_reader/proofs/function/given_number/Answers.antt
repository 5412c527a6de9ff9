use Rattle.c_reader.proofs.Heads.{no_opening}
use Rattle.c_reader.proofs.function.given_number.Goals as goal

pub returns-clause-none : goal.returns-clause-none
returns-clause-none c = no_opening c.args.opening.now c.args.value c.args.closing.now c.args.text.now c.in_ok-behind.behind.now c.after_number.result c.in_ok-behind.ensures.some c.after_number.ensures.none
