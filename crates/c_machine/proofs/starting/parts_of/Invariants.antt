use Rattle.std.proofs.Common.{◌≡◌, ◌++◌, length, map, reverse}
use Rattle.c_meaning.specs.Code.{body_of}
use Rattle.c_meaning.specs.Run.{header_of}
use Rattle.c_machine.proofs.starting.parts_of.Given as goal

abbrev pub invariant-loop-function : goal.invariant-loop-function
invariant-loop-function l = record {
  bodies : map body_of l.functions ++ reverse l.backwards.items ≡ map body_of l.fn.functions;
  headers : map header_of l.functions ++ reverse l.headers.items ≡ map header_of l.fn.functions;
}

abbrev pub decreases-loop-function : goal.decreases-loop-function
decreases-loop-function l = length l.functions
