-- Items that go to targets, as the laws read them.
use Rattle.std.specs.Prelude.{ℕ, ◌+◌}
use Rattle.code_forms.specs.declared.operand.Operand.TheVariants as operand
use Rattle.node_tree.specs.Tree.{block}
use Rattle.carries_targets.specs.Places as targets
use Rattle.carried_codes.specs.Places as places
use Rattle.reform_targets.specs.declared.unpacking.Taker.{Taker}

abbrev pub taker_of : Taker → targets.Taker
taker_of k = record { item = k.item; block = block k.block }

-- by the temporaries from t on
abbrev pub taking : ℕ → places.Place → targets.Taker
taking t p = record { item = t; block = (places.assign (t + 1) (operand.Temp t) p).block }
