use Rattle.std.proofs.Common.{◌≡◌, ◌-◌}
use Rattle.node_tree.specs.Blocks.{append}
use Rattle.node_tree.specs.Tree.{block}
use Rattle.reform_homes.specs.Unset.{unset_from}
use Rattle.reform_homes.proofs.begun.unset.Given as goal

abbrev pub invariant-loop-to : goal.invariant-loop-to
invariant-loop-to l = append (block l.nodes) (unset_from l.to (l.end - l.to)) ≡ unset_from l.first (l.end - l.first)
