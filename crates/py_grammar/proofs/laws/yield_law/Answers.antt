use Rattle.py_grammar.specs.Levels.{follows_yield}
use Rattle.py_grammar.specs.Grammar.{Yields}
use Rattle.py_grammar.specs.Parse.{read_yield}
use Rattle.py_grammar.proofs.Places.{one_tree}
use Rattle.py_grammar.proofs.Productions.{yield_read, yield_spelled}
use Rattle.py_grammar.proofs.laws.yield_law.Goals as goal

pub returns-clause-read : goal.returns-clause-read
returns-clause-read c = yield_read

pub returns-clause-spelled : goal.returns-clause-spelled
returns-clause-spelled c = yield_spelled

pub returns-clause-one : goal.returns-clause-one
returns-clause-one c = one_tree Yields follows_yield read_yield yield_read
