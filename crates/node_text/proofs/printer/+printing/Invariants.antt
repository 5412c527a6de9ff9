use Rattle.std.proofs.Common.{◌≡◌, ◌++◌, drop, string_bytes}
use Rattle.node_tree.specs.Tree.{block}
use Rattle.node_text.specs.Text.{block_text}
use Rattle.node_text.proofs.printer.+printing.Given as goal

-- what is written, and the lines of the nodes that are left, are those of all of them
abbrev pub invariant-push_nodes-loop-node : goal.invariant-push_nodes-loop-node
invariant-push_nodes-loop-node l = string_bytes l.text ++ block_text l.indent (block (drop l.node-index l.nodes)) ≡ string_bytes l.fn.text ++ block_text l.indent (block l.nodes)
