use Rattle.std.proofs.Common.{◌≡◌, ◌++◌, length}
use Rattle.std.specs.List.{AllByRecursion, flat_map}
use Rattle.c_meaning.specs.Text.{line_text}
use Rattle.c_meaning.specs.Written.{IsBodyLine, Once}
use Rattle.c_reader.proofs.Bodies.{labels_of, Knows}
use Rattle.c_reader.proofs.function.body.Given as goal

-- the lines that were read, their labels, and what is left
abbrev pub invariant-loop-alloc : goal.invariant-loop-alloc
invariant-loop-alloc l = record {
  spelled : l.text ≡ flat_map line_text l.lines ++ l.left;
  each : AllByRecursion (IsBodyLine l.registers) l.lines;
  once : Once (labels_of l.lines);
  knows : Knows l.labels l.lines;
}

abbrev pub decreases-loop-alloc : goal.decreases-loop-alloc
decreases-loop-alloc l = length l.left
