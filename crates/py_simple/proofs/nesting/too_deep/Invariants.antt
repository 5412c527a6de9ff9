use Rattle.std.proofs.Common.{◌≡◌, ◌≤◌, drop}
use Rattle.py_statements.specs.Nesting.{max_nesting, too_deep}
use Rattle.py_simple.proofs.nesting.too_deep.Given as goal

abbrev pub invariant-loop-token : goal.invariant-loop-token
invariant-loop-token l = record {
  left : too_deep l.open (drop l.token-index l.tokens) ≡ too_deep 0 l.tokens;
  shallow : l.open ≤ max_nesting;
}
