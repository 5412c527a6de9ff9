use Rattle.std.proofs.Common.{length}
use Rattle.rt_call.proofs.keywords.+keywords_error.Given as goal

abbrev pub decreases-keywords_error : goal.decreases-keywords_error
decreases-keywords_error l = length l.names.now
