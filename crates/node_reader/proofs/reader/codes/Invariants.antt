use Rattle.std.proofs.Common.{◌≡◌, ◌<◌, ◌++◌, length}
use Rattle.std.specs.Prelude.{codes}
use Rattle.std.specs.List.{AllByRecursion}
use Rattle.c_meaning.specs.Text.{numbered}
use Rattle.c_reader.specs.Statements.{IsNotFront}
use Rattle.node_text.specs.Text.{code_text}
use Rattle.node_text.specs.Written.{IsCode}
use Rattle.node_reader.proofs.reader.codes.Given as goal

-- the codes that were read, and what is left
abbrev pub invariant-loop-number : goal.invariant-loop-number
invariant-loop-number l = record {
  spelled : l.text ≡ numbered code_text 0 l.found ++ l.left;
  each : AllByRecursion IsCode l.found;
  ends : 0 < length l.found → IsNotFront (codes "  ") l.left;
  long : length l.found ≡ l.number;
}
