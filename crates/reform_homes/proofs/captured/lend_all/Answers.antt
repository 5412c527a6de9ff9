use Rattle.std.proofs.Common.{rules, refl}
use Rattle.reform_homes.specs.Gaining.{lent}
use Rattle.reform_homes.proofs.Standing.{lent_step, lent_end}
use Rattle.reform_homes.proofs.captured.lend_all.Goals as goal

pub loop-name-init : goal.loop-name-init
loop-name-init c = λ a. refl

pub loop-name-preserved : goal.loop-name-preserved
loop-name-preserved c =
    lent_step c.args.scope c.loop-name.name-index c.args.names.now c.name-item.result c.args.lists.now.items c.loop-name.lists.items c.lend.new.lists.items (λ a. lent a c.args.scope c.args.names.now)
    (search rules) c.name-item.is c.loop-name.invariant c.in_ok-lend.ensures

pub returns : goal.returns
returns c = lent_end c.args.scope c.args.names.now c.args.lists.now.items c.loop-name.lists.items (λ a. lent a c.args.scope c.args.names.now) (search rules)
