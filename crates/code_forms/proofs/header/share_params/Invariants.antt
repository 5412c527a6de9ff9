use Rattle.std.proofs.Common.{◌≡◌, take}
use Rattle.std.specs.List.{AllByRecursion}
use Rattle.code_forms.specs.Fits.{ParamFits}
use Rattle.code_forms.proofs.header.share_params.Given as goal

abbrev pub invariant-loop-place : goal.invariant-loop-place
invariant-loop-place l = record { made : l.copy ≡ take l.place l.params; fit : AllByRecursion ParamFits l.copy }
