use Rattle.std.proofs.Common.{◌≡◌, ◌+◌, map, length}
use Rattle.node_tree.specs.Blocks as tree
use Rattle.node_tree.specs.Tree.{block}
use Rattle.carries_targets.specs.Targets.{items_block}
use Rattle.reform_targets.specs.Takers.{taker_of}
use Rattle.reform_targets.proofs.unpacking.take_all.Given as goal

abbrev pub invariant-loop-taker : goal.invariant-loop-taker
invariant-loop-taker l = (block l.whole ≡ tree.append (block l.fn.first) (items_block l.line l.list l.number (map taker_of l.yielded) tree.Stop)) × (l.at ≡ l.number + length l.yielded)
