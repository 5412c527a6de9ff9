use Rattle.c_reader.proofs.Numbers.{no_field}
use Rattle.c_reader.proofs.number.field.Goals as goal

pub returns-clause-none : goal.returns-clause-none
returns-clause-none c = no_field c.args.limit c.args.opening.now c.args.closing.now c.args.text.now c.in_ok-behind.behind.now c.number.result c.in_ok-behind.ensures.some c.number.ensures.none
