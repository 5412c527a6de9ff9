use Rattle.std.proofs.Common.{rules}
use Rattle.py_meaning.specs.Scopes.{home_among}
use Rattle.reform_homes.proofs.Standing.{home_step}
use Rattle.reform_homes.proofs.locals.homes.Goals as goal

pub loop-name-preserved : goal.loop-name-preserved
loop-name-preserved c =
    home_step c.loop-name.homes.entries _ c.args.names.now c.loop-name.name-index c.name-item.result (home_among c.args.names.now) (search rules) c.name-item.is c.loop-name.invariant c.in_ok-number.ensures.ok
