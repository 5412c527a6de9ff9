use Rattle.reform_homes.proofs.Standing.{frees_are}
use Rattle.reform_homes.proofs.frees.free_names.Goals as goal

pub returns : goal.returns
returns c =
    frees_are c.args.scopes.now c.in_ok-lists.lists.items c.gain_own.new.lists.items c.gain_inner.new.lists.items c.in_ok-lists.ensures c.in_ok-gain_own.ensures c.in_ok-gain_inner.ensures
