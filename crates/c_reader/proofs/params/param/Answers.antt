use Rattle.c_reader.proofs.Shapes.{no_name}
use Rattle.c_reader.proofs.params.param.Goals as goal

pub returns-in_default-from_utf8-clause-none : goal.returns-in_default-from_utf8-clause-none
returns-in_default-from_utf8-clause-none c = no_name c.args.text.now c.split_at_space.result.0.now c.split_at_space.result.1 c.split_at_space.ensures.no_space c.split_at_space.ensures.spelled c.in_default-from_utf8.ensures.cases.0
