use Rattle.std.proofs.Common.{◌≡◌, drop}
use Rattle.c_meaning.specs.Written.{in_order}
use Rattle.c_reader.proofs.params.in_order.Given as goal

-- what is left stands in its order as all of it does
abbrev pub invariant-loop-place : goal.invariant-loop-place
invariant-loop-place l = in_order l.least (drop l.place l.shape) ≡ in_order 0 l.shape
