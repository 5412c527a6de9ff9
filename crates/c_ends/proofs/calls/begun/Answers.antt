use Rattle.std.proofs.Common.{ap}
use Rattle.nu_calls.specs.Ends.{over}
use Rattle.c_ends.proofs.calls.begun.Goals as goal

pub returns-in-Raise : goal.returns-in-Raise
returns-in-Raise c = λ input frames is. rw c.in-Raise.is (ap over (c.in_ok-raises-in-Raise.ensures input frames))
