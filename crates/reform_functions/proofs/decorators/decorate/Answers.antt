use Rattle.std.proofs.Common.{map}
use Rattle.node_tree.specs.Tree.{block}
use Rattle.reform_blocks.specs.Parts.{carrier}
use Rattle.reform_values.specs.Values.{valued_of}
use Rattle.reform_functions.specs.Marks.{decorator_of, mark_of}
use Rattle.reform_functions.proofs.Dressed.{decorated_is}
use Rattle.reform_functions.proofs.decorators.decorate.Goals as goal

pub returns : goal.returns
returns c =
    decorated_is (map decorator_of c.args.decorators.items) (carrier c.args.part) c.args.next (block c.in_ok-first.first) (block c.in_ok-block.block) (map mark_of c.in_ok-first.marks.items) (valued_of c.in_ok-whole.whole) c.in_ok-first.ensures.0 c.in_ok-first.ensures.1 c.in_ok-block.ensures c.in_ok-whole.ensures
