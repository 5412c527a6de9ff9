use Rattle.rt_class.proofs.Copies.{copied_pair}
use Rattle.rt_class.proofs.making.copied.Goals as goal

pub loop-pair-preserved : goal.loop-pair-preserved
loop-pair-preserved c =
    copied_pair c.args.list.now _ _ c.loop-pair.pair-index c.pair-item.result _ _ c.requires c.loop-pair-test.true c.pair-item.is c.loop-pair.invariant c.in_ok-share.ensures c.in_ok-copy.ensures.same c.in_ok-set.ensures.ok
