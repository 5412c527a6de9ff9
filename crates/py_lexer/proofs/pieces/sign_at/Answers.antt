use Rattle.std.proofs.Common.{sym}
use Rattle.py_ast.specs.Spelled.{signs}
use Rattle.py_lexer.proofs.LineEnds.{sign_none}
use Rattle.py_lexer.proofs.pieces.sign_at.Goals as goal

pub returns-in-Some-clause-lines : goal.returns-in-Some-clause-lines
returns-in-Some-clause-lines c = rw c.spelling.ensures.value (sign_none signs c.args.text.now c.in-Some.sign (sym c.in-Some.ensures.value))
