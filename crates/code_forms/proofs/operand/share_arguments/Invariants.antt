use Rattle.std.proofs.Common.{◌≡◌, take, drop}
use Rattle.std.specs.List.{AllByRecursion}
use Rattle.code_forms.specs.Fits.{ArgumentFits}
use Rattle.code_forms.proofs.operand.share_arguments.Given as goal

-- where what is left fits, all do
abbrev pub invariant-loop-argument : goal.invariant-loop-argument
invariant-loop-argument l = record { made : l.copy ≡ take l.argument-index l.arguments; fit : AllByRecursion ArgumentFits (drop l.argument-index l.arguments) → AllByRecursion ArgumentFits l.arguments }
