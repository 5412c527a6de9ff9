use Rattle.c_meaning.proofs.Grows.{c_monotone}
use Rattle.c_meaning.proofs.runs_are_monotone.Goals as goal

pub returns : goal.returns
returns c = λ rules p input. c_monotone rules p input
