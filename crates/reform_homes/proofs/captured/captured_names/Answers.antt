use Rattle.reform_homes.proofs.Standing.{captured_are}
use Rattle.reform_homes.proofs.captured.captured_names.Goals as goal

pub returns : goal.returns
returns c = captured_are c.args.scopes.now c.in_ok-lists.lists.items c.capture.new.lists.items c.in_ok-lists.ensures c.in_ok-capture.ensures
