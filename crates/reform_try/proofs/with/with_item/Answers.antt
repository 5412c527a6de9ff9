use Rattle.node_tree.specs.Tree.{block}
use Rattle.carries_control.proofs.With.{with_carried}
use Rattle.reform_try.proofs.Kept.{with_standing}
use Rattle.reform_try.proofs.with.with_item.Goals as goal

pub returns-clause-carries : goal.returns-clause-carries
returns-clause-carries c = λ h low ml mh il ih bl bh caught x targets y st wm wi wb above below apart cm ci cb.
    rw (c.in_ok-whole.ensures, c.in_ok-behind.ensures, c.in_ok-inside.ensures, c.in_ok-kept.ensures.first, c.in_ok-kept.ensures.drawn)
    (with_carried h low _ ml mh il ih bl bh c.args.item c.args.line caught x targets y (block c.args.manager.block) (block c.args.bind) (block c.args.body) c.args.manager.value st wm wi wb above below apart cm ci cb)

pub returns-clause-stands : goal.returns-clause-stands
returns-clause-stands c = λ test hides.
    rw (c.in_ok-whole.ensures, c.in_ok-behind.ensures, c.in_ok-inside.ensures, c.in_ok-kept.ensures.first)
    (with_standing test hides c.args.line _ c.args.item (block c.args.manager.block) (block c.args.bind) (block c.args.body) c.args.manager.value)
