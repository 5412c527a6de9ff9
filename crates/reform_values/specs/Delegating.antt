-- The steps of a `yield from`, each by itself.
use Rattle.std.specs.Prelude.{ℕ, ◌+◌}
use Rattle.node_tree.specs.Blocks as tree
use Rattle.carries_control.specs.Raises.{stopped_block}
use Rattle.carries_definitions.specs.Delegated.{delegate_turn_block, result_block}
use Rattle.carries_definitions.specs.Told.{sent_block, thrown_block}

-- a turn
unfoldable pub turn_block : ℕ → ℕ → tree.Block
turn_block line t = delegate_turn_block line t (sent_block line t) (thrown_block line t)

-- there is no first value
unfoldable pub never_block : ℕ → ℕ → tree.Block
never_block line t = stopped_block line (t + 3) (t + 5) (result_block line (t + 3) (t + 7))

-- the turns, and the value behind them
unfoldable pub turns_block : ℕ → ℕ → tree.Block
turns_block line t = tree.Follow (tree.Loop (turn_block line t)) (result_block line (t + 1) (t + 7))
