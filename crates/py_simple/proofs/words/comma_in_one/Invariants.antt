use Rattle.std.proofs.Common.{◌≡◌, ◌≤◌, drop}
use Rattle.py_statements.specs.Words.{comma_in_one}
use Rattle.py_simple.proofs.words.comma_in_one.Given as goal

abbrev pub invariant-loop-token : goal.invariant-loop-token
invariant-loop-token l = record {
  left : comma_in_one l.open (drop l.token-index l.tokens) ≡ comma_in_one 0 l.tokens;
  few : l.open ≤ l.token-index;
}
