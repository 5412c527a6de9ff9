use Rattle.std.proofs.Common.{◌≡◌, take}
use Rattle.rt_class.proofs.making.copied.Given as goal

abbrev pub invariant-loop-pair : goal.invariant-loop-pair
invariant-loop-pair l = l.names ≡ take l.pair-index l.list
