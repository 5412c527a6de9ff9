use Rattle.c_reader.proofs.Taken.{none_taken}
use Rattle.c_reader.proofs.argument.further_taken.Goals as goal

pub returns-in_default : goal.returns-in_default
returns-in_default c = none_taken c.args.further c.args.given.now c.is_empty.result c.in_default.is c.is_empty.ensures
