use Rattle.py_lexer.proofs.Longest.{fits}
use Rattle.py_lexer.proofs.laws.longest_piece.Goals as goal

pub returns : goal.returns
returns c = λ text. fits text
