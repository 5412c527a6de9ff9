use Rattle.std.proofs.Common.{◌∙◌}
use Rattle.generator_cut.proofs.Emitted.{counted_step}
use Rattle.generator_cut.proofs.pauses.numbers.Goals as goal

pub loop-index-preserved : goal.loop-index-preserved
loop-index-preserved c =
    let s = counted_step c.args.count c.loop-index.index c.args.first c.loop-index.list.items c.push.new.self.items c.loop-index-test.true c.in_ok-push.ensures.items in
    s ∙ c.loop-index.invariant
