use Rattle.std.proofs.Common.{◌≡◌, drop}
use Rattle.op_forms.specs.Fits.{are_texts}
use Rattle.runtime_table.proofs.arguments.are_texts.Given as goal

abbrev pub invariant-loop-place : goal.invariant-loop-place
invariant-loop-place l = are_texts (drop l.place l.pairs) ≡ are_texts l.pairs
