use Rattle.py_grammar.specs.Levels.{follows_targets}
use Rattle.py_grammar.specs.Grammar.{Targets}
use Rattle.py_grammar.specs.Parse.{read_targets}
use Rattle.py_grammar.proofs.Places.{one_tree}
use Rattle.py_grammar.proofs.Productions.{targets_read, targets_spelled}
use Rattle.py_grammar.proofs.laws.targets_law.Goals as goal

pub returns-clause-read : goal.returns-clause-read
returns-clause-read c = targets_read

pub returns-clause-spelled : goal.returns-clause-spelled
returns-clause-spelled c = targets_spelled

pub returns-clause-one : goal.returns-clause-one
returns-clause-one c = one_tree Targets follows_targets read_targets targets_read
