use Rattle.std.proofs.Common.{◌≡◌, drop}
use Rattle.py_lexer.specs.Signs.{sign_of}
use Rattle.py_lexer.proofs.signs.sign_in.Given as goal

abbrev pub invariant-loop-sign : goal.invariant-loop-sign
invariant-loop-sign l = sign_of (drop l.sign-index l.table) l.text ≡ sign_of l.table l.text
