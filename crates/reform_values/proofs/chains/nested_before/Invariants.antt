use Rattle.std.proofs.Common.{◌≡◌, [], ◌∷◌, ◌++◌, map, length}
use Rattle.node_tree.specs.Tree.{block}
use Rattle.reform_values.specs.Linking.{nested}
use Rattle.reform_values.proofs.chains.nested_before.Given as goal

abbrev pub invariant-loop-step : goal.invariant-loop-step
invariant-loop-step l = nested l.line l.next (map block l.left.items ++ block l.rest ∷ []) ≡ nested l.line l.next (map block (l.fn.blocks.items ++ l.fn.last ∷ []))

abbrev pub decreases-loop-step : goal.decreases-loop-step
decreases-loop-step l = length l.left.items
