use Rattle.py_grammar.specs.Levels.{expression, follows_expression}
use Rattle.py_grammar.specs.Grammar.{Expression}
use Rattle.py_grammar.specs.Parse.{read_level}
use Rattle.py_grammar.proofs.Places.{one_tree}
use Rattle.py_grammar.proofs.Productions.{expression_read, expression_spelled}
use Rattle.py_grammar.proofs.laws.expression_law.Goals as goal

pub returns-clause-read : goal.returns-clause-read
returns-clause-read c = expression_read

pub returns-clause-spelled : goal.returns-clause-spelled
returns-clause-spelled c = expression_spelled

pub returns-clause-one : goal.returns-clause-one
returns-clause-one c = one_tree Expression follows_expression (read_level expression) expression_read
