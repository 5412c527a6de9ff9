use Rattle.std.proofs.Common.{◌≡◌, ◌++◌, length}
use Rattle.std.specs.List.{AllByRecursion}
use Rattle.c_meaning.specs.Text.{cases_text}
use Rattle.c_meaning.specs.Written.{IsNumber}
use Rattle.c_reader.proofs.statement.cases.Given as goal

-- the cases that were read, and what is left
abbrev pub invariant-loop-behind : goal.invariant-loop-behind
invariant-loop-behind l = record {
  spelled : l.text ≡ cases_text l.labels ++ l.rest;
  each : AllByRecursion IsNumber l.labels;
}

abbrev pub decreases-loop-behind : goal.decreases-loop-behind
decreases-loop-behind l = length l.rest
