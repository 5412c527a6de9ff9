use Rattle.std.proofs.Common.{◌≡◌, ◌++◌, length}
use Rattle.std.specs.List.{AllByRecursion}
use Rattle.c_meaning.specs.Text.{numbered, function_text}
use Rattle.c_meaning.specs.Written.{IsFunction}
use Rattle.c_reader.proofs.reader.functions.Given as goal

-- the functions that were read, and what is left
abbrev pub invariant-loop-number : goal.invariant-loop-number
invariant-loop-number l = record {
  spelled : l.text ≡ numbered function_text 0 l.found ++ l.left;
  each : AllByRecursion IsFunction l.found;
  long : length l.found ≡ l.number;
}
