use Rattle.std.proofs.Common.{arith}
use Rattle.rt_text.proofs.Cuts.{cut_is}
use Rattle.rt_text.proofs.parts.first_cut.Goals as goal

pub returns-clause-cases : goal.returns-clause-cases
returns-clause-cases c = cut_is c.args.part.now c.args.text.now c.split_once.result (omega arith) c.split_once.ensures.cases
