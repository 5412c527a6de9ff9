use Rattle.std.proofs.Common.{◌≡◌, map}
use Rattle.node_tree.specs.Tree.{block}
use Rattle.reform_values.specs.Linking.{linked_of, step_blocks, last_value}
use Rattle.reform_values.proofs.chains.steps.Given as goal

abbrev pub invariant-loop-link : goal.invariant-loop-link
invariant-loop-link l = (map block l.blocks.items ≡ step_blocks l.line l.next l.fn.first (map linked_of l.yielded)) × (l.left ≡ last_value l.fn.first (map linked_of l.yielded))
