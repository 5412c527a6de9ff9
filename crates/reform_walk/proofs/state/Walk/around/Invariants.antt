use Rattle.std.proofs.Common.{◌≡◌, map, length}
use Rattle.node_tree.specs.Tree.{block}
use Rattle.walk_laws.specs.Expressions as spec
use Rattle.reform_walk.specs.Made.{turn_of}
use Rattle.reform_walk.specs.States.{state_of}
use Rattle.reform_walk.proofs.state.Walk.around.Given as goal

abbrev pub invariant-loop-turn : goal.invariant-loop-turn
invariant-loop-turn l = spec.around l.line (block l.whole) (map turn_of l.left.items) (state_of l.self) ≡ spec.around l.line (block l.fn.element) (map turn_of l.fn.turns.items) (state_of l.fn.self)

abbrev pub decreases-loop-turn : goal.decreases-loop-turn
decreases-loop-turn l = length l.left.items
