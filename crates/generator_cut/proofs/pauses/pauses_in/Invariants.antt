use Rattle.std.proofs.Common.{◌≡◌, ◌+◌, drop}
use Rattle.flow_code.specs.Contents.{yields}
use Rattle.generator_cut.proofs.pauses.pauses_in.Given as goal

abbrev pub invariant-loop-one : goal.invariant-loop-one
invariant-loop-one l = l.pauses + yields (drop l.one-index l.body) ≡ yields l.body
