use Rattle.std.proofs.Common.{◌≡◌, map}
use Rattle.node_tree.specs.Blocks as tree
use Rattle.node_tree.specs.Tree.{block}
use Rattle.carries_values.specs.Displays.{fill_block}
use Rattle.reform_values.specs.Filling.{item_of}
use Rattle.reform_values.proofs.displays.filled.Given as goal

abbrev pub invariant-loop-item : goal.invariant-loop-item
invariant-loop-item l = block l.whole ≡ tree.append (block l.fn.first) (fill_block l.line l.next (map item_of l.yielded))
