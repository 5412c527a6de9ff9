use Rattle.std.proofs.Common.{◌≡◌, map, take, drop}
use Rattle.std.specs.List.{AllByRecursion}
use Rattle.generator_cut.specs.Cut.{function_of, all_saved}
use Rattle.generator_cut.specs.Fits.{FunctionFits}
use Rattle.generator_cut.proofs.cutting.functions.Given as goal

-- where what is left fits, all do
abbrev pub invariant-loop-one : goal.invariant-loop-one
invariant-loop-one l = record {
  made : l.made ≡ map (λ f. function_of (all_saved f) f) (take l.one-index l.functions);
  fit : AllByRecursion FunctionFits (drop l.one-index l.functions) → AllByRecursion FunctionFits l.functions;
}
