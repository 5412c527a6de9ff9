use Rattle.py_grammar.specs.Levels.{follows_target}
use Rattle.py_grammar.specs.Grammar.{Target}
use Rattle.py_grammar.specs.Parse.{read_target}
use Rattle.py_grammar.proofs.Places.{one_tree}
use Rattle.py_grammar.proofs.Productions.{target_read, target_spelled}
use Rattle.py_grammar.proofs.laws.target_law.Goals as goal

pub returns-clause-read : goal.returns-clause-read
returns-clause-read c = target_read

pub returns-clause-spelled : goal.returns-clause-spelled
returns-clause-spelled c = target_spelled

pub returns-clause-one : goal.returns-clause-one
returns-clause-one c = one_tree Target follows_target read_target target_read
