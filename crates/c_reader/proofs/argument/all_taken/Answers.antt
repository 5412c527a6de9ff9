use Rattle.std.proofs.Common.{sym, ◌∙◌}
use Rattle.c_reader.proofs.Taken.{missing}
use Rattle.c_reader.proofs.argument.all_taken.Goals as goal

pub returns-in_default : goal.returns-in_default
returns-in_default c = sym (missing c.args.kinds.now c.args.further c.loop-kind.kind-index c.loop-kind.left.now c.loop-kind-test.true c.in_default.len_below) ∙ c.loop-kind.invariant
