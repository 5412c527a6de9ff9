use Rattle.std.proofs.Common.{length, ap, ◌∙◌}
use Rattle.py_lexer.specs.declared.runs.Class.TheVariants as class
use Rattle.py_lexer.proofs.LineEnds.{run_size}
use Rattle.py_lexer.proofs.words.take_word.Goals as goal

pub returns-clause-size : goal.returns-clause-size
returns-clause-size c = ap length c.in_ok-word.ensures.value ∙ run_size class.Word c.args.text.now
