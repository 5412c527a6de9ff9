use Rattle.reform_loops.proofs.Blocks.{turn_is}
use Rattle.reform_loops.proofs.loops.turn.Goals as goal

pub returns : goal.returns
returns c = λ o is. turn_is c.args.line c.args.over c.args.truth c.args.first c.args.body _ _ _ _ o _ c.in_ok-inner.ensures c.in_ok-again.ensures c.in_ok-fails.ensures c.in_ok-fails-2.ensures (c.in_ok-whole.ensures o is)
