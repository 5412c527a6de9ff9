use Rattle.std.proofs.Common.{◌≡◌, map}
use Rattle.reform_blocks.specs.Parts.{carrier}
use Rattle.reform_values.specs.Filling.{item_of}
use Rattle.walk_laws.specs.Expressions as spec
use Rattle.reform_walk.proofs.lists.item_parts.Given as goal

abbrev pub invariant-loop-item : goal.invariant-loop-item
invariant-loop-item l = map carrier l.parts.items ≡ map spec.item_part (map item_of l.yielded)
