use Rattle.std.proofs.Common.{◌≡◌, drop}
use Rattle.code_forms.specs.Taking.{all_taken}
use Rattle.c_reader.proofs.argument.all_taken.Given as goal

-- what is left is taken as all of it is
abbrev pub invariant-loop-kind : goal.invariant-loop-kind
invariant-loop-kind l = all_taken (drop l.kind-index l.kinds) l.further l.left ≡ all_taken l.kinds l.further l.given
