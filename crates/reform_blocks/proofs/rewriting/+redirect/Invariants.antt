use Rattle.std.proofs.Common.{◌≡◌, length, reverse}
use Rattle.node_tree.specs.Blocks as tree
use Rattle.node_tree.specs.Tree.{block}
use Rattle.node_redirect.specs.Redirect.{redirect}
use Rattle.reform_blocks.proofs.rewriting.+redirect.Given as goal

-- the nodes that are left, rewritten, and those that are done, the last first, are all of them rewritten
abbrev pub invariant-redirected-loop-node : goal.invariant-redirected-loop-node
invariant-redirected-loop-node l = record {
  no_deeper : goal.no_deeper-redirected-loop-node l;
  rewritten : tree.append (redirect l.kept (block l.left) l.depth) (block (reverse l.done.items)) ≡ redirect l.kept (block l.fn.nodes) l.depth;
}

abbrev pub decreases-redirected-loop-node : goal.decreases-redirected-loop-node
decreases-redirected-loop-node l = length l.left
