use Rattle.nuit_lib.proofs.Clauses.{asks_of, counts_of, usage_of, missing_of, builds_of, runs_of}
use Rattle.nuit_lib.proofs.call.nuit.Goals as goal

pub returns-clause-usage : goal.returns-clause-usage
returns-clause-usage g c = λ q. usage_of _ _ c.answer.ensures.ends q

pub returns-clause-missing : goal.returns-clause-missing
returns-clause-missing g c = λ command told w t q. missing_of _ command told w t _ c.answer.ensures.ends q

pub returns-clause-asks : goal.returns-clause-asks
returns-clause-asks g c = asks_of _ _ c.answer.ensures.ends

pub returns-clause-build : goal.returns-clause-build
returns-clause-build g c = λ name bytes told w t b q. builds_of _ name told w t bytes _ b c.answer.ensures.ends q

pub returns-clause-run : goal.returns-clause-run
returns-clause-run g c = λ name bytes left steps told w t b i q. runs_of _ name steps told w t bytes left _ b i c.answer.ensures.ends q

pub returns-clause-input_faults : goal.returns-clause-input_faults
returns-clause-input_faults g c = counts_of _ _ c.answer.ensures.ends c.answer.ensures.counts
