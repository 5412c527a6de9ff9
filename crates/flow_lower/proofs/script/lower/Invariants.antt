use Rattle.std.proofs.Common.{List, ◌++◌, drop}
use Rattle.std.specs.List.{AllByRecursion}
use Rattle.flow_code.specs.declared.function.FlatFunction.{FlatFunction}
use Rattle.flow_code.specs.WellFormed.{HasRoom}
use Rattle.flow_lower.specs.Correct.{LowersEach}
use Rattle.flow_lower.proofs.script.lower.Given as goal

-- functions of the codes that are left complete the functions of all
abbrev pub invariant-loop-code : goal.invariant-loop-code
invariant-loop-code l = record {
  each : (rest : List FlatFunction) → LowersEach (drop l.code-index l.code-items) rest → LowersEach l.code-items (l.functions.items ++ rest);
  room : AllByRecursion HasRoom l.functions.items;
}
