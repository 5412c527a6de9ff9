use Rattle.py_lexer.proofs.Answers.{one_answer}
use Rattle.py_lexer.proofs.laws.one_answer.Goals as goal

pub returns : goal.returns
returns c = λ bytes. one_answer bytes
