use Rattle.std.proofs.Common.{◌≡◌, map, false}
use Rattle.node_tree.specs.Blocks as tree
use Rattle.node_tree.specs.Tree.{block}
use Rattle.reform_values.specs.Passing.{passed_of, pass_all, begun_by_all}
use Rattle.reform_values.proofs.calls.handed.Given as goal

abbrev pub invariant-loop-arg : goal.invariant-loop-arg
invariant-loop-arg l = (block l.whole ≡ tree.append (block l.fn.first) (pass_all l.line l.next false (map passed_of l.yielded))) × (l.begun ≡ begun_by_all false (map passed_of l.yielded))
