use Rattle.std.proofs.Common.{◌≤◌, ◌-◌, length, string_bytes}
use Rattle.py_lexer.proofs.Bodies.{Reached}
use Rattle.py_lexer.proofs.strings.body.Given as goal

abbrev pub invariant-loop-at : goal.invariant-loop-at
invariant-loop-at l = record {
  within : l.at ≤ length l.text;
  reached : Reached l.literal l.text l.at (string_bytes l.out) l.refused l.lines;
}

abbrev pub decreases-loop-at : goal.decreases-loop-at
decreases-loop-at l = length l.text - l.at
