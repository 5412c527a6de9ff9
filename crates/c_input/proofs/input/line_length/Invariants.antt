use Rattle.std.proofs.Common.{◌≡◌, ◌+◌, drop, length}
use Rattle.nu_calls.specs.Lines.{before_lf}
use Rattle.c_input.proofs.input.line_length.Given as goal

abbrev pub invariant-loop-place : goal.invariant-loop-place
invariant-loop-place l = length (before_lf l.bytes) ≡ l.place + length (before_lf (drop l.place l.bytes))
