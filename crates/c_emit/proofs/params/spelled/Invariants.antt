use Rattle.std.proofs.Common.{◌≡◌, take}
use Rattle.c_meaning.specs.Text.{params_text}
use Rattle.c_emit.proofs.params.spelled.Given as goal

-- the parameters so far
abbrev pub invariant-loop-place : goal.invariant-loop-place
invariant-loop-place l = l.bytes.items ≡ params_text (take l.place l.params)
