use Rattle.std.proofs.Common.{◌≡◌, ◌+◌, ◌*◌, ◌++◌, length}
use Rattle.node_tree.specs.Tree.{block}
use Rattle.node_text.specs.Text.{block_text}
use Rattle.node_text.specs.Written.{IsBlock}
use Rattle.node_reader.proofs.node.+nesting.Given as goal

-- the statements that were read, and what is left
abbrev pub invariant-block-loop-behind : goal.invariant-block-loop-behind
invariant-block-loop-behind l = record {
  spelled : l.text ≡ block_text l.indent (block l.nodes) ++ l.left;
  is : IsBlock (block l.nodes);
}

abbrev pub decreases-block-loop-behind : goal.decreases-block-loop-behind
decreases-block-loop-behind l = length l.left

-- the text gets shorter
abbrev pub decreases-block : goal.decreases-block
decreases-block l = 4 * length l.text.now + 3

abbrev pub decreases-closed : goal.decreases-closed
decreases-closed l = 4 * length l.text.now + 4

abbrev pub decreases-two : goal.decreases-two
decreases-two l = 4 * length l.text.now + 5

abbrev pub decreases-node : goal.decreases-node
decreases-node l = 4 * length l.text.now + 2
