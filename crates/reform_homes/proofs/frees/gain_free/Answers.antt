use Rattle.std.proofs.Common.{rules}
use Rattle.py_meaning.specs.Scopes.{is_free}
use Rattle.reform_homes.proofs.Standing.{gained_step}
use Rattle.reform_homes.proofs.frees.gain_free.Goals as goal

pub loop-name-preserved : goal.loop-name-preserved
loop-name-preserved c =
    gained_step (is_free c.args.this) c.args.more.now c.loop-name.name-index c.name-item.result c.loop-name.names _ _ (search rules) c.name-item.is c.loop-name.invariant c.in_ok-gain_one.ensures
