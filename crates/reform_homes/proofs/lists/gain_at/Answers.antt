use Rattle.std.proofs.Common.{rules}
use Rattle.reform_homes.proofs.Gaining.{gain_here, gain_not_here}
use Rattle.reform_homes.proofs.lists.gain_at.Goals as goal

pub returns-in_ok-gain : goal.returns-in_ok-gain
returns-in_ok-gain c = gain_here c.args.lists.now.items c.args.number c.index_mut.result.now _ c.args.name.now (search rules) c.index_mut.ensures.value c.in_ok-gain.ensures

pub returns-else-number-len : goal.returns-else-number-len
returns-else-number-len c = gain_not_here c.args.lists.now.items c.args.number c.args.name.now (search rules)
