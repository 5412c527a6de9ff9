use Rattle.generator_cut.proofs.AllSaved.{programs_same}
use Rattle.generator_cut.proofs.programs_do_the_same.Goals as goal

pub returns : goal.returns
returns c = programs_same
