use Rattle.std.proofs.Common.{ap}
use Rattle.node_tree.specs.Tree.{block}
use Rattle.reform_functions.proofs.Defaults.{bare_is}
use Rattle.reform_functions.proofs.functions.bare_function.Goals as goal

pub returns : goal.returns
returns c = bare_is c.args.line c.args.code c.args.next c.args.cells.items c.new.result (block c.new-2.result) (block c.in_ok-whole.whole) c.new.ensures (ap block c.new-2.ensures) c.in_ok-whole.ensures
