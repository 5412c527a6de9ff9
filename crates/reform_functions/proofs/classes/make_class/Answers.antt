use Rattle.std.proofs.Common.{map}
use Rattle.node_tree.specs.Tree.{block}
use Rattle.reform_blocks.specs.Parts.{carrier}
use Rattle.reform_values.specs.Values.{valued_of}
use Rattle.reform_functions.specs.Marks.{decorator_of, mark_of}
use Rattle.reform_functions.proofs.Dressed.{class_is}
use Rattle.reform_functions.proofs.classes.make_class.Goals as goal

pub returns : goal.returns
returns c =
    class_is c.args.line c.args.code c.args.name (map decorator_of c.args.decorators.items) (carrier c.args.base) c.args.cells.items c.args.next (block c.in_ok-first.first) (block c.in_ok-first-2.first) (block c.in_ok-whole.whole) (block c.in_ok-made.made) (map mark_of c.in_ok-first.marks.items) (valued_of c.in_ok-defined.defined) c.in_ok-first.ensures.0 c.in_ok-first.ensures.1 c.in_ok-first-2.ensures c.in_ok-whole.ensures c.in_ok-made.ensures c.in_ok-defined.ensures
