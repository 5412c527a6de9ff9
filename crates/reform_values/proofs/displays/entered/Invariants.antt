use Rattle.std.proofs.Common.{◌≡◌, map}
use Rattle.node_tree.specs.Blocks as tree
use Rattle.node_tree.specs.Tree.{block}
use Rattle.carries_values.specs.Displays.{enter_block}
use Rattle.reform_values.specs.Filling.{entry_of}
use Rattle.reform_values.proofs.displays.entered.Given as goal

abbrev pub invariant-loop-entry : goal.invariant-loop-entry
invariant-loop-entry l = block l.whole ≡ tree.append (block l.fn.first) (enter_block l.line l.next (map entry_of l.yielded))
