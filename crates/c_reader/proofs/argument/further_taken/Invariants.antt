use Rattle.std.proofs.Common.{◌≡◌, drop, [], Some}
use Rattle.code_forms.specs.Taking.{all_taken}
use Rattle.c_reader.proofs.argument.further_taken.Given as goal

abbrev pub invariant-loop-argument : goal.invariant-loop-argument
invariant-loop-argument l = all_taken [] (Some l.kind) (drop l.argument-index l.given) ≡ all_taken [] (Some l.kind) l.given
