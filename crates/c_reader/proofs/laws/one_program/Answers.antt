use Rattle.c_reader.proofs.Programs.{one_program}
use Rattle.c_reader.proofs.laws.one_program.Goals as goal

pub returns : goal.returns
returns c = one_program
