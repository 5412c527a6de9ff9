use Rattle.py_grammar.specs.Levels.{follows_exprs}
use Rattle.py_grammar.specs.Grammar.{Exprs}
use Rattle.py_grammar.specs.Parse.{read_exprs}
use Rattle.py_grammar.proofs.Places.{one_tree}
use Rattle.py_grammar.proofs.Productions.{exprs_read, exprs_spelled}
use Rattle.py_grammar.proofs.laws.exprs_law.Goals as goal

pub returns-clause-read : goal.returns-clause-read
returns-clause-read c = exprs_read

pub returns-clause-spelled : goal.returns-clause-spelled
returns-clause-spelled c = exprs_spelled

pub returns-clause-one : goal.returns-clause-one
returns-clause-one c = one_tree Exprs follows_exprs read_exprs exprs_read
