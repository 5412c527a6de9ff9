use Rattle.std.proofs.Common.{◌≡◌, ◌+◌, ◌≤◌, length}
use Rattle.py_lexer.specs.Pieces.{pieces, end_line}
use Rattle.py_lexer.specs.Machine.{pass, initial}
use Rattle.py_lexer.specs.Seen.{state}
use Rattle.py_lexer.proofs.script.tokens_of.Given as goal

abbrev pub invariant-cut : goal.invariant-cut
invariant-cut l = record {
  left : pass (end_line 1 (pieces 1 0 l.text)) (pieces l.line 0 l.rest) (state l.layout) ≡ pass (end_line 1 (pieces 1 0 l.text)) (pieces 1 0 l.text) initial;
  end_ : end_line l.line (pieces l.line 0 l.rest) ≡ end_line 1 (pieces 1 0 l.text);
  shorter : length l.rest ≤ length l.text;
  lines : l.line + length l.rest ≤ 1 + length l.text;
}

abbrev pub decreases-cut : goal.decreases-cut
decreases-cut l = length l.rest
