use Rattle.std.proofs.Common.{◌≡◌, map}
use Rattle.node_tree.specs.Blocks as tree
use Rattle.node_tree.specs.Tree.{block}
use Rattle.carries_base.specs.Carries.{joined}
use Rattle.reform_blocks.specs.Parts.{carrier}
use Rattle.reform_values.proofs.operations.gathered.Given as goal

abbrev pub invariant-loop-part : goal.invariant-loop-part
invariant-loop-part l = (block l.whole ≡ joined (map carrier l.yielded) tree.Stop) × (l.values.items ≡ map (λ p. p.value) (map carrier l.yielded))
