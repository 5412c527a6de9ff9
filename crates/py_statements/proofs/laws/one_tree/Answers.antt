use Rattle.py_statements.proofs.Top as top
use Rattle.py_statements.proofs.laws.one_tree.Goals as goal

pub returns : goal.returns
returns c = top.one_tree
