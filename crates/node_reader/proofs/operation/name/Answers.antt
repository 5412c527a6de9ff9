use Rattle.node_reader.proofs.Names.{no_name}
use Rattle.node_reader.proofs.operation.name.Goals as goal

pub returns-clause-none : goal.returns-clause-none
returns-clause-none c = no_name c.args.text.now c.name_among.result c.name_among.ensures.none
