use Rattle.std.proofs.Common.{◌≡◌, [], drop}
use Rattle.op_rules.specs.Calls.{keywords_of}
use Rattle.rt_call.proofs.given.keywords_of.Given as goal

abbrev pub invariant-loop-place : goal.invariant-loop-place
invariant-loop-place l = keywords_of (drop l.place l.pairs) l.names ≡ keywords_of l.pairs []
