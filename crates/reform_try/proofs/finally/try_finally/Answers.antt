use Rattle.node_tree.specs.Tree.{block}
use Rattle.carries_control.proofs.Finish.{finally_carried}
use Rattle.reform_try.proofs.Kept.{finally_standing}
use Rattle.reform_try.proofs.finally.try_finally.Goals as goal

pub returns-clause-carries : goal.returns-clause-carries
returns-clause-carries c = λ h low bl bh ll lh caught x y st wb wl cb cl.
    rw (c.in_ok-whole.ensures, c.in_ok-kept.ensures.first, c.in_ok-kept.ensures.drawn) (finally_carried h low _ bl bh ll lh caught x y (block c.args.body) (block c.args.last) st wb wl cb cl)

pub returns-clause-stands : goal.returns-clause-stands
returns-clause-stands c = λ test none. rw c.in_ok-whole.ensures (finally_standing test none c.in_ok-kept.kept (block c.args.body) (block c.args.last))
