use Rattle.std.proofs.Common.{◌≡◌, take, false}
use Rattle.c_meaning.specs.Written.{has}
use Rattle.c_reader.proofs.params.split_at_space.Given as goal

abbrev pub invariant-loop-place : goal.invariant-loop-place
invariant-loop-place l = has (take l.place l.text) 32 ≡ false
