use Rattle.py_lexer.proofs.Standing.{every_character}
use Rattle.py_lexer.proofs.laws.every_character_stands.Goals as goal

pub returns : goal.returns
returns c = λ bytes. every_character bytes
