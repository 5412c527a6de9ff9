use Rattle.std.proofs.Common.{◌≡◌, ◌+◌, List, ◌++◌, drop, vec_len}
use Rattle.node_tree.specs.Tree.{block}
use Rattle.flow_code.specs.declared.statement.Line.{Line}
use Rattle.flow_lower.specs.Lower.{labels, block_lines}
use Rattle.flow_lower.proofs.lowering.+lowering.Given as goal

-- what was appended, and then the lines of the nodes that are left, are the lines of all of them
abbrev pub invariant-lower_nodes-loop-node : goal.invariant-lower_nodes-loop-node
invariant-lower_nodes-loop-node l = record {
  lines : (tail : List Line) → l.out.items ++ block_lines (block (drop l.node-index l.nodes)) (vec_len l.labels) l.fail l.fn.exits.items tail ≡ l.fn.out.items ++ block_lines (block l.nodes) (vec_len l.fn.labels) l.fail l.fn.exits.items tail;
  drawn : vec_len l.labels + labels (block (drop l.node-index l.nodes)) ≡ vec_len l.fn.labels + labels (block l.nodes);
  exits : l.exits.items ≡ l.fn.exits.items;
}
