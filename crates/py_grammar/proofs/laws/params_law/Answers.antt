use Rattle.py_grammar.specs.Levels.{follows_params}
use Rattle.py_grammar.specs.Grammar.{SomeParams}
use Rattle.py_grammar.specs.Parse.{read_some_params}
use Rattle.py_grammar.proofs.Places.{one_tree}
use Rattle.py_grammar.proofs.Productions.{params_read, params_spelled, some_params_read}
use Rattle.py_grammar.proofs.laws.params_law.Goals as goal

pub returns-clause-read : goal.returns-clause-read
returns-clause-read c = params_read

pub returns-clause-spelled : goal.returns-clause-spelled
returns-clause-spelled c = params_spelled

pub returns-clause-one : goal.returns-clause-one
returns-clause-one c = one_tree SomeParams follows_params read_some_params some_params_read
